-- The tests of a collector as facts, and what a list tells of one. Omega reads 16, 63, 64 and 1024 as numerals only, so they stand so in these proofs.
use Prim.Native.Nat.{ℕ, zero, suc, ◌+◌, ◌-◌, ◌*◌, ◌/◌, ◌%◌, ◌≤◌, ◌<◌, min}
use mathlib.Core.Path.{◌≡◌, refl, sym}
use mathlib.Core.Logic.{◌⊎◌, inl, inr, ⊎_elim}
use mathlib.Core.List.{List}
use mathlib.Core.Bool.{Bool, true, false}
use native.Mathlib.Omega.{arith}
use lib.ListN.{length, take, get_or}
use lib.Seq.{get_or-take, length-take-le}
use lib.Dec.{ltb, eqb}
use borrow.Author.Tests.{eq-eqb, ne_eqb, lt-ltb, le-ltb, ltb-true, ltb-false, eqb-true, eqb-false}
use Rattle.collector.specs.Collector.{◌and◌, all_below, end_of, least_to, mark_fits, byte_fits, marks_fit, bytes_fit}

pub true_not_false : {b : Bool} → b ≡ true → b ≡ false → ⊥
true_not_false p q = let z : ◌≡◌ {A = ℕ} 0 1 = cc in omega arith

pub both_left : (a b : Bool) → (a and b) ≡ true → a ≡ true
both_left true b e = refl
both_left false b e = e

pub both_right : (a b : Bool) → (a and b) ≡ true → b ≡ true
both_right true b e = e
both_right false b e = absurd (true_not_false e refl)

pub both_true : (a b : Bool) → a ≡ true → b ≡ true → (a and b) ≡ true
both_true a b e f = rw (e, f)

pub bool_cases : (b : Bool) → (b ≡ true) ⊎ (b ≡ false)
bool_cases true = inl refl
bool_cases false = inr refl

pub lt_or_le : (a b : ℕ) → (a < b) ⊎ (b ≤ a)
lt_or_le a b = ⊎_elim (λ e. inl (ltb-true a b e)) (λ e. inr (ltb-false a b e)) (bool_cases (ltb a b))

pub eq_or_ne : (a b : ℕ) → (a ≡ b) ⊎ (a ≡ b → ⊥)
eq_or_ne a b = ⊎_elim (λ e. inl (eqb-true a b e)) (λ e. inr (eqb-false a b e)) (bool_cases (eqb a b))

module _ (p : ℕ → Bool) where
  pub all_of : (n : ℕ) → ((k : ℕ) → k < n → p k ≡ true) → all_below n p ≡ true
  unfolding all_below
  all_of zero h = refl
  all_of (suc n) h = both_true (all_below n p) (p n) (all_of n (λ k l. h k (omega arith))) (h n (omega arith))

  pub all_at : (n : ℕ) → all_below n p ≡ true → (k : ℕ) → k < n → p k ≡ true
  unfolding all_below
  all_at zero e k l = absurd (omega arith)
  all_at (suc n) e k l =
      ⊎_elim (λ lt. all_at n (both_left (all_below n p) (p n) e) k lt)
      (λ ge. let q : k ≡ n = omega arith in rw q (both_right (all_below n p) (p n) e))
      (lt_or_le k n)

-- the bound from below

pub end_small : (i m : ℕ) → m ≤ 1 → end_of i m ≡ 0
end_small i m h = rw (le-ltb 1 m h)

pub end_large : (i m : ℕ) → 1 < m → end_of i m ≡ 16 * i + (m - 1)
end_large i m h = rw (lt-ltb 1 m h)

pub low_le : (ms : List ℕ) (n t : ℕ) → ((i : ℕ) → i < n → end_of i (get_or ms i 0) ≤ t) → least_to ms n ≤ t
unfolding least_to
low_le ms zero t h = omega arith
low_le ms (suc n) t h = omega (arith, low_le ms n t (λ i l. h i (omega arith)), h n (omega arith))

pub le_low : (ms : List ℕ) (n i : ℕ) → i < n → end_of i (get_or ms i 0) ≤ least_to ms n
unfolding least_to
le_low ms zero i l = absurd (omega arith)
le_low ms (suc n) i l =
    ⊎_elim (λ lt. omega (arith, le_low ms n i lt))
    (λ (ge : n ≤ i). let q : i ≡ n = omega arith in rw q (omega arith))
    (lt_or_le i n)

-- the two tests, as facts

abbrev pub MarksOk : List ℕ → ℕ → Type 0
MarksOk ms n = (i : ℕ) → i < 64 → (get_or ms i 0 ≡ 0 → ⊥) → get_or ms i 0 ≡ suc (min 16 (n - 16 * i))

abbrev pub Zeros : List ℕ → List ℕ → Type 0
Zeros bs ms = (k : ℕ) → k < 1024 → get_or ms (k / 16) 0 ≤ suc (k % 16) → get_or bs k 0 ≡ 0

mark_fact : (n i m : ℕ) → mark_fits n i m ≡ true → (m ≡ 0 → ⊥) → m ≡ suc (min 16 (n - 16 * i))
mark_fact n i m e h = eqb-true _ _ (rw (ne_eqb m 0 h) at e)

fact_mark : (n i m : ℕ) → ((m ≡ 0 → ⊥) → m ≡ suc (min 16 (n - 16 * i))) → mark_fits n i m ≡ true
fact_mark n i m h =
    ⊎_elim (λ z. rw (eq-eqb m 0 z)) (λ nz. rw (ne_eqb m 0 nz) (eq-eqb _ _ (h nz))) (eq_or_ne m 0)

pub marks_fact : (ms : List ℕ) → marks_fit ms ≡ true → MarksOk ms (least_to ms 64)
unfolding marks_fit
marks_fact ms e i l h = mark_fact (least_to ms 64) i (get_or ms i 0) (all_at _ 64 e i l) h

pub fact_marks : (ms : List ℕ) → MarksOk ms (least_to ms 64) → marks_fit ms ≡ true
unfolding marks_fit
fact_marks ms h = all_of _ 64 (λ i l. fact_mark (least_to ms 64) i (get_or ms i 0) (h i l))

byte_fact : (m j b : ℕ) → byte_fits m j b ≡ true → m ≤ suc j → b ≡ 0
byte_fact m j b e h = eqb-true _ _ (rw (le-ltb (suc j) m h) at e)

fact_byte : (m j b : ℕ) → (m ≤ suc j → b ≡ 0) → byte_fits m j b ≡ true
fact_byte m j b h =
    ⊎_elim (λ z. rw (lt-ltb (suc j) m z)) (λ nz. rw (le-ltb (suc j) m nz) (eq-eqb _ _ (h nz))) (lt_or_le (suc j) m)

pub bytes_fact : (bs ms : List ℕ) → bytes_fit bs ms ≡ true → Zeros bs ms
unfolding bytes_fit
bytes_fact bs ms e k l h = byte_fact (get_or ms (k / 16) 0) (k % 16) (get_or bs k 0) (all_at _ 1024 e k l) h

pub fact_bytes : (bs ms : List ℕ) → Zeros bs ms → bytes_fit bs ms ≡ true
unfolding bytes_fit
fact_bytes bs ms h = all_of _ 1024 (λ k l. fact_byte (get_or ms (k / 16) 0) (k % 16) (get_or bs k 0) (h k l))

-- what a list tells of a collector's lists

pub record Tells (l bs ms : List ℕ) : Type 0 where
  pub size : length l ≤ 1024
  pub marks : MarksOk ms (length l)
  pub bytes : (k : ℕ) → k < length l → (get_or ms (k / 16) 0 ≡ 0 → ⊥) → get_or bs k 0 ≡ get_or l k 0

pub low_under : (ms : List ℕ) (n : ℕ) → MarksOk ms n → least_to ms 64 ≤ n
low_under ms n h = low_le ms 64 n (λ i l. at i l (get_or ms i 0) (h i l))
  where
    at : (i : ℕ) → i < 64 → (m : ℕ) → ((m ≡ 0 → ⊥) → m ≡ suc (min 16 (n - 16 * i))) → end_of i m ≤ n
    at i l m q =
        ⊎_elim (λ big. let e : m ≡ suc (min 16 (n - 16 * i)) = q (omega arith) in omega (arith, end_large i m big))
        (λ small. omega (arith, end_small i m small)) (lt_or_le 1 m)

-- if the marks fit some length, they fit the least
pub low_fits : (ms : List ℕ) (n : ℕ) → MarksOk ms n → MarksOk ms (least_to ms 64)
low_fits ms n h i l nz = at (get_or ms i 0) (le_low ms 64 i l) (h i l nz)
  where
    at : (m : ℕ) → end_of i m ≤ least_to ms 64 → m ≡ suc (min 16 (n - 16 * i)) → m ≡ suc (min 16 (least_to ms 64 - 16 * i))
    at m el q =
        let u : least_to ms 64 ≤ n = low_under ms n h in
        ⊎_elim (λ big. omega (arith, end_large i m big)) (λ small. omega arith) (lt_or_le 1 m)

pub low_small : (ms : List ℕ) (n : ℕ) → MarksOk ms n → least_to ms 64 ≤ 1024
low_small ms n h = low_le ms 64 1024 (λ i l. at i l (get_or ms i 0) (h i l))
  where
    at : (i : ℕ) → i < 64 → (m : ℕ) → ((m ≡ 0 → ⊥) → m ≡ suc (min 16 (n - 16 * i))) → end_of i m ≤ 1024
    at i l m q =
        ⊎_elim (λ big. let e : m ≡ suc (min 16 (n - 16 * i)) = q (omega arith) in omega (arith, end_large i m big))
        (λ small. omega (arith, end_small i m small)) (lt_or_le 1 m)

-- a well-formed collector's bytes, up to the least length, explain it
pub tells_low : (bs ms : List ℕ) → length bs ≡ 1024 → MarksOk ms (least_to ms 64) → Tells (take (least_to ms 64) bs) bs ms
tells_low bs ms e h =
    let s : least_to ms 64 ≤ 1024 = low_small ms (least_to ms 64) h in
    let q : length (take (least_to ms 64) bs) ≡ least_to ms 64 = length-take-le (least_to ms 64) bs (omega arith) in
    record {
      size = omega arith;
      marks = λ i l nz. rw q (h i l nz);
      bytes = λ k l nz. sym (get_or-take (least_to ms 64) bs k 0 (omega arith));
    }
