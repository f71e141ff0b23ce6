-- A list's answers, and a part put among the bytes.
use Prim.Native.Nat.{ℕ, suc, ◌+◌, ◌-◌, ◌*◌, ◌/◌, ◌%◌, ◌≤◌, ◌<◌, min}
use mathlib.Core.Path.{◌≡◌, sym, ap, ◌∙◌, subst}
use mathlib.Core.Logic.{⊎_elim}
use mathlib.Core.List.{List, ◌++◌}
use native.Mathlib.Omega.{arith}
use lib.ListN.{length, take, drop, get_or, set, length-take, length-drop, get_or-append}
use lib.Seq.{paste, length_paste_head, get_or-take, get_or-drop, get_or-append-add, get_or-set_same, get_or-set_other, ext_get_or, length-take-le}
use Rattle.collector.specs.Collector.{answer_of}
use Rattle.collector.proofs.Basic.{lt_or_le, eq_or_ne, Zeros, Tells}

-- the answer of a list

pub answer_length : (l : List ℕ) (i : ℕ) → length (answer_of l i) ≡ min 16 (length l - 16 * i)
answer_length l i = length-take 16 (drop (16 * i) l) ∙ ap (λ (n : ℕ). min 16 n) (length-drop (16 * i) l)

pub answer_at : (l : List ℕ) (i j : ℕ) → j < 16 → get_or (answer_of l i) j 0 ≡ get_or l (16 * i + j) 0
answer_at l i j h = get_or-take 16 (drop (16 * i) l) j 0 h ∙ get_or-drop (16 * i) l j 0

pub answer_is : (l d : List ℕ) (i : ℕ) → length d ≡ min 16 (length l - 16 * i) → ((j : ℕ) → j < length d → get_or l (16 * i + j) 0 ≡ get_or d j 0) → answer_of l i ≡ d
answer_is l d i e h =
    let q : length (answer_of l i) ≡ length d = answer_length l i ∙ sym e in
    ext_get_or 0 (answer_of l i) d q (λ j k. answer_at l i j (omega arith) ∙ h j (omega arith))

-- a list with a part put into it

module _ (bs d : List ℕ) (at : ℕ) (fit : at + length d ≤ length bs) where
  head_length : length (take at bs ++ take (length d) d) ≡ at + length d
  head_length = length_paste_head bs at d (length d) (omega arith) (omega arith)

  pub paste_before : (k : ℕ) → k < at → get_or (paste bs at d (length d)) k 0 ≡ get_or bs k 0
  paste_before k h =
      get_or-append (take at bs ++ take (length d) d) (drop (at + length d) bs) 0 k (omega (arith, head_length))
      ∙ get_or-append (take at bs) (take (length d) d) 0 k (omega (arith, length-take-le at bs (omega arith)))
      ∙ get_or-take at bs k 0 h

  pub paste_in : (j : ℕ) → j < length d → get_or (paste bs at d (length d)) (at + j) 0 ≡ get_or d j 0
  paste_in j h =
      let q : length (take at bs) ≡ at = length-take-le at bs (omega arith) in
      get_or-append (take at bs ++ take (length d) d) (drop (at + length d) bs) 0 (at + j) (omega (arith, head_length))
      ∙ subst (λ (n : ℕ). get_or (take at bs ++ take (length d) d) (n + j) 0 ≡ get_or (take (length d) d) j 0) q (get_or-append-add (take at bs) (take (length d) d) j 0)
      ∙ get_or-take (length d) d j 0 h

  pub paste_after : (k : ℕ) → at + length d ≤ k → get_or (paste bs at d (length d)) k 0 ≡ get_or bs k 0
  paste_after k h =
      let j : ℕ = k - (at + length d) in
      let e : at + length d + j ≡ k = omega arith in
      subst (λ (n : ℕ). get_or (paste bs at d (length d)) n 0 ≡ get_or bs n 0) e
      (subst (λ (n : ℕ). get_or (paste bs at d (length d)) (n + j) 0 ≡ get_or (drop (at + length d) bs) j 0) head_length
      (get_or-append-add (take at bs ++ take (length d) d) (drop (at + length d) bs) j 0)
      ∙ get_or-drop (at + length d) bs j 0)

module _ (bs ms d : List ℕ) (i : ℕ) (eb : length bs ≡ 1024) (em : length ms ≡ 64) (il : i < 64) (dl : length d ≤ 16) where
  pub mark_here : get_or (set ms i (suc (length d))) i 0 ≡ suc (length d)
  mark_here = get_or-set_same ms i (suc (length d)) 0 (omega arith)

  pub mark_other : (j : ℕ) → (j ≡ i → ⊥) → get_or (set ms i (suc (length d))) j 0 ≡ get_or ms j 0
  mark_other j h = get_or-set_other ms i j (suc (length d)) 0 h

  pub byte_in : (k : ℕ) → 16 * i ≤ k → k < 16 * i + length d → get_or (paste bs (16 * i) d (length d)) k 0 ≡ get_or d (k - 16 * i) 0
  byte_in k a b =
      let e : 16 * i + (k - 16 * i) ≡ k = omega arith in
      subst (λ (n : ℕ). get_or (paste bs (16 * i) d (length d)) n 0 ≡ get_or d (k - 16 * i) 0) e
      (paste_in bs d (16 * i) (omega arith) (k - 16 * i) (omega arith))

  pub byte_out : (k : ℕ) → (16 * i ≤ k → 16 * i + length d ≤ k) → get_or (paste bs (16 * i) d (length d)) k 0 ≡ get_or bs k 0
  byte_out k h =
      ⊎_elim (λ lt. paste_before bs d (16 * i) (omega arith) k lt) (λ ge. paste_after bs d (16 * i) (omega arith) k (h ge)) (lt_or_le k (16 * i))

  pub byte_other : (k : ℕ) → (k / 16 ≡ i → ⊥) → get_or (paste bs (16 * i) d (length d)) k 0 ≡ get_or bs k 0
  byte_other k h = byte_out k (λ le. ⊎_elim (λ lt. absurd (h (omega arith))) (λ ge. ge) (lt_or_le k (16 * i + length d)))

  pub zeros_put : Zeros bs ms → get_or ms i 0 ≡ 0 → Zeros (paste bs (16 * i) d (length d)) (set ms i (suc (length d)))
  zeros_put z free k kl le =
      ⊎_elim
      (λ q.
      let le' : get_or (set ms i (suc (length d))) i 0 ≤ suc (k % 16) = rw q at le in
      let zero-mark : get_or ms (k / 16) 0 ≡ 0 = rw q free in
      byte_out k (λ a. omega (arith, mark_here)) ∙ z k kl (omega arith))
      (λ n. byte_other k n ∙ z k kl (omega (arith, mark_other (k / 16) n)))
      (eq_or_ne (k / 16) i)

  pub tells_put : (l : List ℕ) → Tells l bs ms → answer_of l i ≡ d → Tells l (paste bs (16 * i) d (length d)) (set ms i (suc (length d)))
  tells_put l t e =
      let len : length d ≡ min 16 (length l - 16 * i) = sym (ap length e) ∙ answer_length l i in
      record {
        size = t.size;
        marks = λ j jl nz.
            ⊎_elim (λ q. rw q (mark_here ∙ ap suc len))
            (λ n. mark_other j n ∙ t.marks j jl (λ z. nz (mark_other j n ∙ z)))
            (eq_or_ne j i);
        bytes = λ k kl nz.
            ⊎_elim
            (λ q.
            byte_in k (omega arith) (omega arith)
            ∙ ap (λ (x : List ℕ). get_or x (k - 16 * i) 0) (sym e)
            ∙ answer_at l i (k - 16 * i) (omega arith)
            ∙ ap (λ (x : ℕ). get_or l x 0) (omega arith))
            (λ n. byte_other k n ∙ t.bytes k kl (λ z. nz (mark_other (k / 16) n ∙ z)))
            (eq_or_ne (k / 16) i);
      }

  pub tells_old : (l : List ℕ) → Tells l (paste bs (16 * i) d (length d)) (set ms i (suc (length d))) → get_or ms i 0 ≡ 0 → Tells l bs ms
  tells_old l t free =
      record {
        size = t.size;
        marks = λ j jl nz.
            let n : j ≡ i → ⊥ = λ q. nz (rw q free) in
            sym (mark_other j n) ∙ t.marks j jl (λ z. nz (sym (mark_other j n) ∙ z));
        bytes = λ k kl nz.
            let n : k / 16 ≡ i → ⊥ = λ q. nz (rw q free) in
            sym (byte_other k n) ∙ t.bytes k kl (λ z. nz (sym (mark_other (k / 16) n) ∙ z));
      }

  pub tells_new : (l : List ℕ) → Tells l (paste bs (16 * i) d (length d)) (set ms i (suc (length d))) → answer_of l i ≡ d
  tells_new l t =
      let heard : get_or (set ms i (suc (length d))) i 0 ≡ 0 → ⊥ = λ z. omega (arith, mark_here) in
      let len : length d ≡ min 16 (length l - 16 * i) = omega (arith, mark_here, t.marks i il heard) in
      answer_is l d i len (λ j jl.
      let q : (16 * i + j) / 16 ≡ i = omega arith in
      sym (t.bytes (16 * i + j) (omega arith) (λ z. heard (rw q at z)))
      ∙ paste_in bs d (16 * i) (omega arith) j jl)
