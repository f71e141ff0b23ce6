-- An answer to a well-formed collector, by cases.
use Prim.Native.Nat.{ℕ, suc, ◌+◌, ◌-◌, ◌*◌, ◌/◌, ◌≤◌, ◌<◌, min}
use mathlib.Core.Path.{◌≡◌, refl, sym, ap, ◌∙◌}
use mathlib.Core.List.{List, []}
use mathlib.Core.Bool.{Bool, true, false}
use native.Mathlib.Omega.{arith}
use lib.ListN.{length, get_or, length-set, length-replicate}
use lib.Seq.{length-paste}
use lib.Dec.{ltb, eqb}
use borrow.Author.Tests.{eq-eqb, ltb-true, ltb-false, eqb-true, eqb-false}
use Rattle.collector.specs.Parts.{Parts}
use Rattle.std.specs.Prelude.{if◌then◌else◌}
use Rattle.base.specs.Field.{Bytes}
use Rattle.base.specs.Outcome.{Outcome, accepted, refused}
use Rattle.base.proofs.little.Laws.{bytes_paste, bytes_zeros, zero_at}
use Rattle.collector.specs.Collector.{all_below, answer_of, fresh, least_to, marks_fit, bytes_fit, well_formed, stands_at, has_part, put, taking, joining}
use Rattle.collector.specs.Histories.{Typed}
use Rattle.collector.proofs.Basic.{both_left, both_right, both_true, all_of, all_at, true_not_false, MarksOk, Zeros, Tells, marks_fact, fact_marks, bytes_fact, fact_bytes, low_fits}
use Rattle.collector.proofs.Parts.{answer_length, answer_at, answer_is}

abbrev pub TellsOf : List ℕ → Parts → Type 0
TellsOf l c = Tells l c.bytes c.marks

-- well-formed: the unheard bytes are zero, and some list explains

pub wf_marks : (c : Parts) → well_formed c ≡ true → MarksOk c.marks (least_to c.marks 64)
wf_marks c w = marks_fact c.marks (both_left _ (bytes_fit c.bytes c.marks) w)

pub wf_zeros : (c : Parts) → well_formed c ≡ true → Zeros c.bytes c.marks
wf_zeros c w = bytes_fact c.bytes c.marks (both_right (marks_fit c.marks) _ w)

pub wf_of : (c : Parts) (l : List ℕ) → TellsOf l c → Zeros c.bytes c.marks → well_formed c ≡ true
wf_of c l t z =
    both_true (marks_fit c.marks) (bytes_fit c.bytes c.marks) (fact_marks c.marks (low_fits c.marks (length l) t.marks))
    (fact_bytes c.bytes c.marks z)

-- a fresh collector

pub fresh_typed : Typed fresh
fresh_typed = record { bytes = length-replicate {A = ℕ} 1024 0; marks = length-replicate {A = ℕ} 64 0; small = bytes_zeros 1024 }

pub fresh_zeros : Zeros fresh.bytes fresh.marks
fresh_zeros k l h = zero_at 1024 k

pub fresh_tells : (l : List ℕ) → length l ≤ 1024 → TellsOf l fresh
fresh_tells l h =
    record {
      size = h;
      marks = λ i il nz. absurd (nz (zero_at 64 i));
      bytes = λ k kl nz. absurd (nz (zero_at 64 (k / 16)));
    }

pub fresh_wf : well_formed fresh ≡ true
fresh_wf = wf_of fresh [] (fresh_tells [] (omega arith)) fresh_zeros

-- a repeat

module _ (c : Parts) (i : ℕ) (d l : List ℕ) (t : TellsOf l c) (il : i < 64) (nz : get_or c.marks i 0 ≡ 0 → ⊥) where
  pub same_answer : has_part c i d ≡ true → answer_of l i ≡ d
  unfolding has_part stands_at
  same_answer s =
      let q : get_or c.marks i 0 ≡ suc (length d) = eqb-true _ _ (both_left _ (all_below (length d) (λ j. eqb (get_or c.bytes (16 * i + j) 0) (get_or d j 0))) s) in
      let len : length d ≡ min 16 (length l - 16 * i) = omega (arith, t.marks i il nz) in
      answer_is l d i len (λ j jl.
      let e : (16 * i + j) / 16 ≡ i = omega arith in
      sym (t.bytes (16 * i + j) (omega arith) (λ z. nz (rw e at z)))
      ∙ eqb-true _ _ (all_at _ (length d) (both_right (eqb (get_or c.marks i 0) (suc (length d))) _ s) j jl))

  pub answer_same : answer_of l i ≡ d → has_part c i d ≡ true
  unfolding has_part stands_at
  answer_same a =
      let len : length d ≡ min 16 (length l - 16 * i) = sym (ap length a) ∙ answer_length l i in
      let q : get_or c.marks i 0 ≡ suc (length d) = omega (arith, t.marks i il nz) in
      both_true _ _ (eq-eqb _ _ q)
      (all_of _ (length d) (λ j jl.
      let e : (16 * i + j) / 16 ≡ i = omega arith in
      eq-eqb _ _ (t.bytes (16 * i + j) (omega arith) (λ z. nz (rw e at z))
      ∙ sym (answer_at l i j (omega arith)) ∙ ap (λ (x : List ℕ). get_or x j 0) a)))

-- a part put in

pub put_typed : (c : Parts) (i : ℕ) (d : List ℕ) → Typed c → Bytes d → i < 64 → length d ≤ 16 → Typed (put c i d)
put_typed c i d t b il dl =
    let e : length c.bytes ≡ 1024 = t.bytes in
    record {
      bytes = length-paste c.bytes (16 * i) d (length d) (omega arith) (omega arith) ∙ e;
      marks = length-set c.marks i (suc (length d)) ∙ t.marks;
      small = bytes_paste c.bytes (16 * i) d (length d) t.small b;
    }

-- an answer to a well-formed collector, by cases

pub data StepView (c : Parts) (i : ℕ) (d : List ℕ) : Outcome Parts → Type 0 where
  bad_index : 63 < i → StepView c i d (refused 7 [])
  too_long : i < 64 → 16 < length d → StepView c i d (refused 2 [])
  repeats : i < 64 → length d ≤ 16 → (get_or c.marks i 0 ≡ 0 → ⊥) → has_part c i d ≡ true → StepView c i d (accepted c)
  differs : i < 64 → length d ≤ 16 → (get_or c.marks i 0 ≡ 0 → ⊥) → has_part c i d ≡ false → StepView c i d (refused 12 [])
  joins : i < 64 → length d ≤ 16 → get_or c.marks i 0 ≡ 0 → well_formed (put c i d) ≡ true → StepView c i d (accepted (put c i d))
  clashes : i < 64 → length d ≤ 16 → get_or c.marks i 0 ≡ 0 → well_formed (put c i d) ≡ false → StepView c i d (refused 12 [])

module _ (c : Parts) (i : ℕ) (d : List ℕ) where
  view_heard : i < 64 → length d ≤ 16 → (get_or c.marks i 0 ≡ 0 → ⊥) → (b : Bool) → has_part c i d ≡ b → StepView c i d (if b then accepted c else refused 12 [])
  view_heard il dl nz true e = repeats il dl nz e
  view_heard il dl nz false e = differs il dl nz e

  view_free : i < 64 → length d ≤ 16 → get_or c.marks i 0 ≡ 0 → (b : Bool) → well_formed (put c i d) ≡ b → StepView c i d (if b then accepted (put c i d) else refused 12 [])
  view_free il dl nz true e = joins il dl nz e
  view_free il dl nz false e = clashes il dl nz e

  view_joining : i < 64 → length d ≤ 16 → (b : Bool) → eqb (get_or c.marks i 0) 0 ≡ b
      → StepView c i d (if b then if well_formed (put c i d) then accepted (put c i d) else refused 12 [] else if has_part c i d then accepted c else refused 12 [])
  view_joining il dl true e = view_free il dl (eqb-true _ _ e) (well_formed (put c i d)) refl
  view_joining il dl false e = view_heard il dl (eqb-false _ _ e) (has_part c i d) refl

  view_length : i < 64 → (b : Bool) → ltb 16 (length d) ≡ b → StepView c i d (if b then refused 2 [] else joining c i d)
  view_length il true e = too_long il (ltb-true _ _ e)
  view_length il false e = view_joining il (ltb-false _ _ e) (eqb (get_or c.marks i 0) 0) refl

  view_index : (b : Bool) → ltb 63 i ≡ b → StepView c i d (if b then refused 7 [] else if ltb 16 (length d) then refused 2 [] else joining c i d)
  view_index true e = bad_index (ltb-true 63 i e)
  view_index false e = let h : i ≤ 63 = ltb-false 63 i e in view_length (omega arith) (ltb 16 (length d)) refl

  view_wf : (b : Bool) → b ≡ true → StepView c i d (if b then if ltb 63 i then refused 7 [] else if ltb 16 (length d) then refused 2 [] else joining c i d else refused 9 [])
  view_wf true e = view_index (ltb 63 i) refl
  view_wf false e = absurd (true_not_false e refl)

  pub view : well_formed c ≡ true → StepView c i d (taking c i d)
  unfolding taking
  view w = view_wf (well_formed c) w
