-- The lowest unheard index, and completeness.
use Prim.Native.Nat.{ℕ, zero, suc, ◌-◌, ◌*◌, ◌/◌, ◌≤◌, ◌<◌, min}
use mathlib.Core.Path.{◌≡◌, refl, ◌∙◌}
use mathlib.Core.Logic.{◌⊎◌, inl, inr, ⊎_elim}
use mathlib.Core.List.{List}
use mathlib.Core.Bool.{Bool, true, false}
use native.Mathlib.Omega.{arith}
use lib.ListN.{length, take, get_or}
use lib.Seq.{get_or-take, ext_get_or, length-take-le}
use lib.Dec.{ltb, eqb}
use borrow.Author.Tests.{eq-eqb, ne_eqb, lt-ltb, le-ltb, ltb-true, eqb-true}
use Rattle.collector.specs.Parts.{Parts}
use Rattle.collector.specs.Collector.{◌and◌, ◌or◌, least_to, lowest, is_complete}
use Rattle.collector.specs.Demand.{controllers, last_needed}
use Rattle.collector.specs.Histories.{Typed}
use Rattle.collector.proofs.Basic.{true_not_false, both_left, both_right, both_true, lt_or_le, eq_or_ne, le_low, end_large, low_under}
use Rattle.collector.proofs.Step.{TellsOf}
use Rattle.collector.proofs.Heard.{Marked}

pub lowest_le : (ms : List ℕ) (n : ℕ) → lowest ms n ≤ n
unfolding lowest
lowest_le ms zero = omega arith
lowest_le ms (suc n) =
    let m : lowest ms n ≤ n = lowest_le ms n in
    ⊎_elim (λ (l : lowest ms n < n). rw (lt-ltb (lowest ms n) n l) (omega arith))
    (λ (l : n ≤ lowest ms n). rw (le-ltb (lowest ms n) n l)
    (⊎_elim (λ (z : get_or ms n 0 ≡ 0). rw (eq-eqb (get_or ms n 0) 0 z) (omega arith)) (λ (z : get_or ms n 0 ≡ 0 → ⊥). rw (ne_eqb (get_or ms n 0) 0 z) (omega arith)) (eq_or_ne (get_or ms n 0) 0)))
    (lt_or_le (lowest ms n) n)

pub lowest_below : (ms : List ℕ) (n i : ℕ) → i < lowest ms n → get_or ms i 0 ≡ 0 → ⊥
unfolding lowest
lowest_below ms zero i h = absurd (omega arith)
lowest_below ms (suc n) i h =
    ⊎_elim (λ (l : lowest ms n < n). lowest_below ms n i (rw (lt-ltb (lowest ms n) n l) at h))
    (λ (l : n ≤ lowest ms n).
    ⊎_elim (λ (z : get_or ms n 0 ≡ 0). let g : i < n = rw (le-ltb (lowest ms n) n l, eq-eqb (get_or ms n 0) 0 z) at h in lowest_below ms n i (omega arith))
    (λ (z : get_or ms n 0 ≡ 0 → ⊥).
    let g : i < suc n = rw (le-ltb (lowest ms n) n l, ne_eqb (get_or ms n 0) 0 z) at h in
    ⊎_elim (λ (q : i ≡ n). rw q z) (λ (q : i ≡ n → ⊥). lowest_below ms n i (omega arith)) (eq_or_ne i n))
    (eq_or_ne (get_or ms n 0) 0))
    (lt_or_le (lowest ms n) n)

pub lowest_at : (ms : List ℕ) (n : ℕ) → lowest ms n < n → get_or ms (lowest ms n) 0 ≡ 0
unfolding lowest
lowest_at ms zero h = absurd (omega arith)
lowest_at ms (suc n) h =
    ⊎_elim (λ (l : lowest ms n < n). rw (lt-ltb (lowest ms n) n l) (lowest_at ms n l))
    (λ (l : n ≤ lowest ms n).
    ⊎_elim (λ (z : get_or ms n 0 ≡ 0). rw (le-ltb (lowest ms n) n l, eq-eqb (get_or ms n 0) 0 z) z)
    (λ (z : get_or ms n 0 ≡ 0 → ⊥). let g : suc n < suc n = rw (le-ltb (lowest ms n) n l, ne_eqb (get_or ms n 0) 0 z) at h in absurd (omega arith))
    (eq_or_ne (get_or ms n 0) 0))
    (lt_or_le (lowest ms n) n)

-- the least: any unheard index is not below it
pub lowest_is : (ms : List ℕ) (n k : ℕ) → k ≤ n → ((i : ℕ) → i < k → get_or ms i 0 ≡ 0 → ⊥) → (k < n → get_or ms k 0 ≡ 0) → lowest ms n ≡ k
lowest_is ms n k kn below at =
    ⊎_elim (λ (l : lowest ms n < k). absurd (below (lowest ms n) l (lowest_at ms n (omega arith))))
    (λ (g : k ≤ lowest ms n).
    ⊎_elim (λ (e : lowest ms n ≡ k). e)
    (λ (ne : lowest ms n ≡ k → ⊥). let q : lowest ms n ≤ n = lowest_le ms n in absurd (lowest_below ms n k (omega arith) (at (omega arith))))
    (eq_or_ne (lowest ms n) k))
    (lt_or_le (lowest ms n) k)

-- complete

either_cases : (a b : Bool) → (a or b) ≡ true → (a ≡ true) ⊎ (b ≡ true)
either_cases true b e = inl refl
either_cases false b e = inr e

either_right : (a b : Bool) → b ≡ true → (a or b) ≡ true
either_right true b e = refl
either_right false b e = e

pub incomplete_low : (c : Parts) → is_complete c ≡ false → lowest c.marks 64 < 64
unfolding is_complete
incomplete_low c f =
    let m : lowest c.marks 64 ≤ 64 = lowest_le c.marks 64 in
    ⊎_elim (λ (e : lowest c.marks 64 ≡ 64). absurd (true_not_false (rw (eq-eqb (lowest c.marks 64) 64 e)) f)) (λ (n : lowest c.marks 64 ≡ 64 → ⊥). omega arith) (eq_or_ne (lowest c.marks 64) 64)

module _ (c : Parts) (l : List ℕ) (t : TellsOf l c) where
  -- complete: the lowest unheard index is past the last that the list needs
  past : is_complete c ≡ true → last_needed controllers l < lowest c.marks 64
  unfolding is_complete
  past e =
      let s : length l ≤ 1024 = t.size in
      ⊎_elim (λ (f : eqb (lowest c.marks 64) 64 ≡ true). let q : lowest c.marks 64 ≡ 64 = eqb-true _ _ f in omega arith)
      (λ (f : (ltb 0 (lowest c.marks 64) and ltb (get_or c.marks (lowest c.marks 64 - 1) 0) 17) ≡ true).
      let p : 0 < lowest c.marks 64 = ltb-true _ _ (both_left _ _ f) in
      let q : get_or c.marks (lowest c.marks 64 - 1) 0 < 17 = ltb-true _ _ (both_right (ltb 0 (lowest c.marks 64)) _ f) in
      let r : lowest c.marks 64 ≤ 64 = lowest_le c.marks 64 in
      let n : get_or c.marks (lowest c.marks 64 - 1) 0 ≡ 0 → ⊥ = lowest_below c.marks 64 (lowest c.marks 64 - 1) (omega arith) in
      omega (arith, t.marks (lowest c.marks 64 - 1) (omega arith) n))
      (either_cases _ _ e)

  pub complete_heard : is_complete c ≡ true → (i : ℕ) → i ≤ last_needed controllers l → Marked c i
  complete_heard e i h = lowest_below c.marks 64 i (omega (arith, past e))

  pub heard_complete : ((i : ℕ) → i ≤ last_needed controllers l → Marked c i) → is_complete c ≡ true
  unfolding is_complete
  heard_complete h =
      let r : lowest c.marks 64 ≤ 64 = lowest_le c.marks 64 in
      ⊎_elim (λ (f : lowest c.marks 64 ≡ 64). rw (eq-eqb (lowest c.marks 64) 64 f))
      (λ (f : lowest c.marks 64 ≡ 64 → ⊥).
      let free : get_or c.marks (lowest c.marks 64) 0 ≡ 0 = lowest_at c.marks 64 (omega arith) in
      ⊎_elim (λ (g : last_needed controllers l < lowest c.marks 64).
      let n : get_or c.marks (lowest c.marks 64 - 1) 0 ≡ 0 → ⊥ = lowest_below c.marks 64 (lowest c.marks 64 - 1) (omega arith) in
      either_right (eqb (lowest c.marks 64) 64) _
      (both_true _ _ (lt-ltb 0 (lowest c.marks 64) (omega arith))
      (lt-ltb (get_or c.marks (lowest c.marks 64 - 1) 0) 17 (omega (arith, t.marks (lowest c.marks 64 - 1) (omega arith) n)))))
      (λ (g : lowest c.marks 64 ≤ last_needed controllers l). absurd (h (lowest c.marks 64) g free))
      (lt_or_le (last_needed controllers l) (lowest c.marks 64)))
      (eq_or_ne (lowest c.marks 64) 64)

  pub complete_low : is_complete c ≡ true → least_to c.marks 64 ≡ length l
  complete_low e =
      let s : length l ≤ 1024 = t.size in
      let under : least_to c.marks 64 ≤ length l = low_under c.marks (length l) t.marks in
      ⊎_elim
      (λ (p : 0 < length l).
      let i : ℕ = (length l - 1) / 16 in
      let n : Marked c i = complete_heard e i (omega arith) in
      let m : get_or c.marks i 0 ≡ suc (min 16 (length l - 16 * i)) = t.marks i (omega arith) n in
      omega (arith, end_large i (get_or c.marks i 0) (omega arith), le_low c.marks 64 i (omega arith)))
      (λ (z : length l ≤ 0). omega arith) (lt_or_le 0 (length l))

  pub complete_bytes : Typed c → is_complete c ≡ true → take (least_to c.marks 64) c.bytes ≡ l
  complete_bytes ty e =
      let s : length l ≤ 1024 = t.size in
      let b : length c.bytes ≡ 1024 = ty.bytes in
      let q : least_to c.marks 64 ≡ length l = complete_low e in
      let len : length (take (least_to c.marks 64) c.bytes) ≡ least_to c.marks 64 = length-take-le (least_to c.marks 64) c.bytes (omega arith) in
      ext_get_or 0 (take (least_to c.marks 64) c.bytes) l (len ∙ q)
      (λ k kl. get_or-take (least_to c.marks 64) c.bytes k 0 (omega arith) ∙ t.bytes k (omega arith) (complete_heard e (k / 16) (omega arith)))
