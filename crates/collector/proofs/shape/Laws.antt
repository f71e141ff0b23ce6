-- What the shape of the marks tells of the two tests.
use Prim.Native.Nat.{ℕ, zero, suc, ◌+◌, ◌-◌, ◌*◌, ◌/◌, ◌%◌, ◌≤◌, ◌<◌, max}
use mathlib.Core.Path.{◌≡◌, refl, sym, ap, ◌∙◌, subst}
use mathlib.Core.Logic.{◌⊎◌, inl, inr, ⊎_elim}
use mathlib.Core.List.{List}
use mathlib.Core.Bool.{Bool, true, false}
use native.Mathlib.Omega.{arith}
use native.Mathlib.Nat.{zero-add}
use native.Mathlib.Numerals.{add-one}
use Rattle.std.proofs.Common.{rules, nat_cmp}
use Rattle.std.proofs.lemmas.List.{get_or-take, get_or-drop, length-take, length-drop}
use borrow.Rule.Slice.PartMut.{mid_of}
use Rattle.std.specs.Ordering.{ord_max}
use lib.ListN.{length, get_or, set, take, drop}
use lib.Seq.{paste, get_or-set_same, get_or-set_other}
use lib.Dec.{ltb, eqb}
use borrow.Author.Tests.{eq-eqb, ne_eqb, lt-ltb, le-ltb, ltb-false}
use Rattle.collector.specs.Parts.{Parts}
use Rattle.collector.specs.declared.shape.Shape.{Shape}
use Rattle.std.specs.Prelude.{if◌then◌else◌}
use Rattle.collector.specs.Collector.{end_of, least_to, lowest, marks_fit, bytes_fit, well_formed, put, complete_by}
use Rattle.collector.specs.Shape.{max_to, filled, partly, free, top_to, gap_to, most_to, free_to, most, holes, shape_to, shape_of, fits, complete_shape, ShapeFits, shape_with}
use Rattle.collector.proofs.Basic.{true_not_false, both_right, bool_cases, lt_or_le, eq_or_ne, end_small, end_large, low_le, le_low, MarksOk, Zeros, marks_fact, fact_marks, bytes_fact, fact_bytes}
use Rattle.collector.proofs.Parts.{zeros_put}
use Rattle.collector.proofs.Complete.{lowest_le, lowest_below, lowest_at}

-- the larger of two, as the code takes it
pub larger : (a b : ℕ) → ord_max nat_cmp a b ≡ max a b
larger a b = search rules

-- the largest of some numbers

module _ (f : ℕ → ℕ) where
  pub le_max : (n i : ℕ) → i < n → f i ≤ max_to f n
  unfolding max_to
  le_max zero i l = absurd (omega arith)
  le_max (suc n) i l =
      ⊎_elim (λ (lt : i < n). omega (arith, le_max n i lt))
      (λ (ge : n ≤ i). let q : i ≡ n = omega arith in rw q (omega arith))
      (lt_or_le i n)

  pub max_le : (n t : ℕ) → ((i : ℕ) → i < n → f i ≤ t) → max_to f n ≤ t
  unfolding max_to
  max_le zero t h = omega arith
  max_le (suc n) t h = omega (arith, max_le n t (λ i l. h i (omega arith)), h n (omega arith))

max_same : (f g : ℕ → ℕ) (n : ℕ) → ((i : ℕ) → i < n → f i ≡ g i) → max_to f n ≡ max_to g n
unfolding max_to
max_same f g zero h = refl
max_same f g (suc n) h = rw (max_same f g n (λ i l. h i (omega arith)), h n (omega arith))

-- one number more, in place of a zero
pub max_with : (f g : ℕ → ℕ) (n i : ℕ) → i < n → f i ≡ 0 → ((j : ℕ) → (j ≡ i → ⊥) → g j ≡ f j) → max_to g n ≡ max (max_to f n) (g i)
max_with f g n i l z h =
    let up : max_to g n ≤ max (max_to f n) (g i) =
    max_le g n (max (max_to f n) (g i)) (λ j jl.
    ⊎_elim (λ (q : j ≡ i). rw q (omega arith)) (λ (ne : j ≡ i → ⊥). omega (arith, h j ne, le_max f n j jl)) (eq_or_ne j i)) in
    let down : max_to f n ≤ max_to g n =
    max_le f n (max_to g n) (λ j jl.
    ⊎_elim (λ (q : j ≡ i). rw q (omega arith)) (λ (ne : j ≡ i → ⊥). omega (arith, h j ne, le_max g n j jl)) (eq_or_ne j i)) in
    omega (arith, le_max g n i l)

-- the four, of one mark

pub positive : (m : ℕ) → (m ≡ 0 → ⊥) → 1 ≤ m
positive m nz = ⊎_elim (λ (a : 0 < m). a) (λ (b : m ≤ 0). absurd (nz (omega arith))) (lt_or_le 0 m)

pub filled_no : (j m : ℕ) → m ≤ 1 → filled j m ≡ 0
filled_no j m h = rw (le-ltb 1 m h)

pub filled_yes : (j m : ℕ) → 1 < m → filled j m ≡ j
filled_yes j m h = rw (lt-ltb 1 m h)

pub partly_yes : (j m : ℕ) → 1 ≤ m → m ≤ 16 → partly j m ≡ j
partly_yes j m a b = rw (ne_eqb m 0 (λ (q : m ≡ 0). omega arith), lt-ltb m 17 (omega arith))

pub partly_none : (j m : ℕ) → m ≡ 0 → partly j m ≡ 0
partly_none j m h = rw (eq-eqb m 0 h)

pub partly_full : (j m : ℕ) → 16 < m → partly j m ≡ 0
partly_full j m h = rw (ne_eqb m 0 (λ (q : m ≡ 0). omega arith), le-ltb m 17 (omega arith))

pub free_yes : (j m : ℕ) → m ≡ 0 → free j m ≡ j
free_yes j m h = rw (eq-eqb m 0 h)

pub free_no : (j m : ℕ) → (m ≡ 0 → ⊥) → free j m ≡ 0
free_no j m h = rw (ne_eqb m 0 h)

-- the four, of all marks

module _ (ms : List ℕ) where
  pub le_top : (n i : ℕ) → i < n → 1 < get_or ms i 0 → i + 1 ≤ top_to ms n
  unfolding top_to
  le_top n i l h = omega (arith, le_max (λ k. filled (k + 1) (get_or ms k 0)) n i l, filled_yes (i + 1) (get_or ms i 0) h)

  pub top_le : (n t : ℕ) → ((i : ℕ) → i < n → 1 < get_or ms i 0 → i + 1 ≤ t) → top_to ms n ≤ t
  unfolding top_to
  top_le n t h =
      max_le (λ k. filled (k + 1) (get_or ms k 0)) n t (λ i l.
      ⊎_elim (λ (big : 1 < get_or ms i 0). omega (arith, filled_yes (i + 1) (get_or ms i 0) big, h i l big))
      (λ (small : get_or ms i 0 ≤ 1). omega (arith, filled_no (i + 1) (get_or ms i 0) small)) (lt_or_le 1 (get_or ms i 0)))

  pub top_small : (n : ℕ) → top_to ms n ≤ n
  top_small n = top_le n n (λ i l h. omega arith)

  pub top_at : (n p : ℕ) → top_to ms n ≡ suc p → 1 < get_or ms p 0
  unfolding top_to max_to
  top_at zero p e = absurd (omega arith)
  top_at (suc n) p e =
      ⊎_elim
      (λ (big : 1 < get_or ms n 0).
      let q : p ≡ n = omega (arith, filled_yes (n + 1) (get_or ms n 0) big, top_small n) in rw q big)
      (λ (small : get_or ms n 0 ≤ 1). top_at n p (omega (arith, filled_no (n + 1) (get_or ms n 0) small)))
      (lt_or_le 1 (get_or ms n 0))

  pub le_gap : (n i : ℕ) → i < n → 1 ≤ get_or ms i 0 → get_or ms i 0 ≤ 16 → 64 - i ≤ gap_to ms n
  unfolding gap_to
  le_gap n i l a b = omega (arith, le_max (λ k. partly (64 - k) (get_or ms k 0)) n i l, partly_yes (64 - i) (get_or ms i 0) a b)

  pub gap_le : (n t : ℕ) → ((i : ℕ) → i < n → 1 ≤ get_or ms i 0 → get_or ms i 0 ≤ 16 → 64 - i ≤ t) → gap_to ms n ≤ t
  unfolding gap_to
  gap_le n t h =
      max_le (λ k. partly (64 - k) (get_or ms k 0)) n t (λ i l.
      ⊎_elim (λ (z : get_or ms i 0 ≡ 0). omega (arith, partly_none (64 - i) (get_or ms i 0) z))
      (λ (nz : get_or ms i 0 ≡ 0 → ⊥).
      let pos : 1 ≤ get_or ms i 0 = positive (get_or ms i 0) nz in
      ⊎_elim (λ (big : 16 < get_or ms i 0). omega (arith, partly_full (64 - i) (get_or ms i 0) big))
      (λ (small : get_or ms i 0 ≤ 16). omega (arith, partly_yes (64 - i) (get_or ms i 0) pos small, h i l pos small))
      (lt_or_le 16 (get_or ms i 0)))
      (eq_or_ne (get_or ms i 0) 0))

  pub le_most : (n i : ℕ) → i < n → get_or ms i 0 ≤ most_to ms n
  unfolding most_to
  le_most n i l = le_max (λ k. get_or ms k 0) n i l

  pub most_le : (n t : ℕ) → ((i : ℕ) → i < n → get_or ms i 0 ≤ t) → most_to ms n ≤ t
  unfolding most_to
  most_le n t h = max_le (λ k. get_or ms k 0) n t h

  pub le_free : (n i : ℕ) → i < n → get_or ms i 0 ≡ 0 → 64 - i ≤ free_to ms n
  unfolding free_to
  le_free n i l z = omega (arith, le_max (λ k. free (64 - k) (get_or ms k 0)) n i l, free_yes (64 - i) (get_or ms i 0) z)

  pub free_le : (n t : ℕ) → ((i : ℕ) → i < n → get_or ms i 0 ≡ 0 → 64 - i ≤ t) → free_to ms n ≤ t
  unfolding free_to
  free_le n t h =
      max_le (λ k. free (64 - k) (get_or ms k 0)) n t (λ i l.
      ⊎_elim (λ (z : get_or ms i 0 ≡ 0). omega (arith, free_yes (64 - i) (get_or ms i 0) z, h i l z))
      (λ (nz : get_or ms i 0 ≡ 0 → ⊥). omega (arith, free_no (64 - i) (get_or ms i 0) nz)) (eq_or_ne (get_or ms i 0) 0))

  -- the marks fit a list exactly if none is above 17 and no part below the top is partly filled

  pub record Fit : Type 0 where
    pub small : most_to ms 64 ≤ 17
    pub order : top_to ms 64 + gap_to ms 64 ≤ 65

  pub fit_fact : MarksOk ms (least_to ms 64) → Fit
  fit_fact h =
      record {
        small = most_le 64 17 (λ i l.
            ⊎_elim (λ (z : get_or ms i 0 ≡ 0). omega arith) (λ (nz : get_or ms i 0 ≡ 0 → ⊥). omega (arith, h i l nz)) (eq_or_ne (get_or ms i 0) 0));
        order =
            let t : top_to ms 64 ≤ 64 = top_small 64 in
            let g : gap_to ms 64 ≤ 65 - top_to ms 64 = gap_le 64 (65 - top_to ms 64) (λ i l a b.
            let u : top_to ms 64 ≤ i + 1 = top_le 64 (i + 1) (λ p pl big.
            omega (arith, le_low ms 64 p pl, end_large p (get_or ms p 0) big, h i l (λ (z : get_or ms i 0 ≡ 0). omega arith))) in
            omega arith) in
            omega arith;
      }

  pub fact_fit : Fit → MarksOk ms (least_to ms 64)
  fact_fit f i l nz =
      let sm : (p : ℕ) → p < 64 → get_or ms p 0 ≤ 17 = λ p pl. omega (arith, le_most 64 p pl, f.small) in
      let e : end_of i (get_or ms i 0) ≤ least_to ms 64 = le_low ms 64 i l in
      ⊎_elim
      (λ (big : 16 < get_or ms i 0). omega (arith, sm i l, e, end_large i (get_or ms i 0) (omega arith)))
      (λ (small : get_or ms i 0 ≤ 16).
      let pos : 1 ≤ get_or ms i 0 = positive (get_or ms i 0) nz in
      let t : top_to ms 64 ≤ i + 1 = omega (arith, le_gap 64 i l pos small, f.order) in
      let up : least_to ms 64 ≤ 16 * i + (get_or ms i 0 - 1) = low_le ms 64 (16 * i + (get_or ms i 0 - 1)) (λ p pl.
      ⊎_elim
      (λ (much : 1 < get_or ms p 0).
      let w : p + 1 ≤ top_to ms 64 = le_top 64 p pl much in
      ⊎_elim (λ (q : p ≡ i). let s : get_or ms p 0 ≡ get_or ms i 0 = ap (λ (x : ℕ). get_or ms x 0) q in omega (arith, end_large p (get_or ms p 0) much))
      (λ (ne : p ≡ i → ⊥).
      ⊎_elim (λ (lt : p < i). omega (arith, end_large p (get_or ms p 0) much, sm p pl)) (λ (ge : i ≤ p). absurd (ne (omega arith))) (lt_or_le p i))
      (eq_or_ne p i))
      (λ (few : get_or ms p 0 ≤ 1). omega (arith, end_small p (get_or ms p 0) few)) (lt_or_le 1 (get_or ms p 0))) in
      ⊎_elim (λ (more : 1 < get_or ms i 0). omega (arith, end_large i (get_or ms i 0) more)) (λ (one : get_or ms i 0 ≤ 1). omega arith) (lt_or_le 1 (get_or ms i 0)))
      (lt_or_le 16 (get_or ms i 0))

neither : (a b : Bool) → (if a then false else if b then false else true) ≡ true → (a ≡ false) × (b ≡ false)
neither true b e = absurd (true_not_false e refl)
neither false true e = absurd (true_not_false e refl)
neither false false e = (refl, refl)

pub fits_fit : (ms : List ℕ) → fits (shape_of ms) ≡ true → Fit ms
fits_fit ms e =
    let n = neither (ltb 17 (most_to ms 64)) (ltb 65 (top_to ms 64 + gap_to ms 64)) e in
    record { small = ltb-false 17 (most_to ms 64) n.0; order = ltb-false 65 (top_to ms 64 + gap_to ms 64) n.1 }

pub fit_fits : (ms : List ℕ) → Fit ms → fits (shape_of ms) ≡ true
fit_fits ms f = rw (le-ltb 17 (most_to ms 64) f.small, le-ltb 65 (top_to ms 64 + gap_to ms 64) f.order)

-- the test of the shape is the test of the marks
pub marks_by_shape : (ms : List ℕ) → fits (shape_of ms) ≡ marks_fit ms
marks_by_shape ms =
    ⊎_elim
    (λ (t : fits (shape_of ms) ≡ true). t ∙ sym (fact_marks ms (fact_fit ms (fits_fit ms t))))
    (λ (n : fits (shape_of ms) ≡ false).
    ⊎_elim (λ (y : marks_fit ms ≡ true). absurd (true_not_false (fit_fits ms (fit_fact ms (marks_fact ms y))) n)) (λ (z : marks_fit ms ≡ false). n ∙ sym z)
    (bool_cases (marks_fit ms)))
    (bool_cases (fits (shape_of ms)))

-- the end of the last part that is not empty

module _ (ms : List ℕ) (f : Fit ms) where
  pub low_none : top_to ms 64 ≡ 0 → least_to ms 64 ≡ 0
  low_none z =
      let h : least_to ms 64 ≤ 0 = low_le ms 64 0 (λ p pl.
      ⊎_elim (λ (much : 1 < get_or ms p 0). absurd (omega (arith, le_top ms 64 p pl much)))
      (λ (few : get_or ms p 0 ≤ 1). omega (arith, end_small p (get_or ms p 0) few)) (lt_or_le 1 (get_or ms p 0))) in
      omega arith

  pub low_last : (p : ℕ) → top_to ms 64 ≡ suc p → least_to ms 64 ≡ 16 * p + (get_or ms p 0 - 1)
  low_last p e =
      let big : 1 < get_or ms p 0 = top_at ms 64 p e in
      let pl : p < 64 = omega (arith, top_small ms 64) in
      let down : end_of p (get_or ms p 0) ≤ least_to ms 64 = le_low ms 64 p pl in
      let up : least_to ms 64 ≤ 16 * p + (get_or ms p 0 - 1) = low_le ms 64 (16 * p + (get_or ms p 0 - 1)) (λ k kl.
      ⊎_elim
      (λ (much : 1 < get_or ms k 0).
      ⊎_elim (λ (q : k ≡ p). let s : get_or ms k 0 ≡ get_or ms p 0 = ap (λ (x : ℕ). get_or ms x 0) q in omega (arith, end_large k (get_or ms k 0) much))
      (λ (ne : k ≡ p → ⊥).
      ⊎_elim (λ (lt : k < p). omega (arith, end_large k (get_or ms k 0) much, le_most ms 64 k kl, f.small))
      (λ (ge : p ≤ k). absurd (ne (omega (arith, le_top ms 64 k kl much)))) (lt_or_le k p))
      (eq_or_ne k p))
      (λ (few : get_or ms k 0 ≤ 1). omega (arith, end_small k (get_or ms k 0) few)) (lt_or_le 1 (get_or ms k 0))) in
      omega (arith, end_large p (get_or ms p 0) big)

  pub low_top : least_to ms 64 ≤ 16 * top_to ms 64
  low_top = low_le ms 64 (16 * top_to ms 64) (λ k kl.
      ⊎_elim (λ (much : 1 < get_or ms k 0). omega (arith, end_large k (get_or ms k 0) much, le_top ms 64 k kl much, le_most ms 64 k kl, f.small))
      (λ (few : get_or ms k 0 ≤ 1). omega (arith, end_small k (get_or ms k 0) few)) (lt_or_le 1 (get_or ms k 0)))

  pub low_within : least_to ms 64 ≤ 1024
  low_within = omega (arith, low_top, top_small ms 64)

-- the bytes

module _ (bs : List ℕ) where
  pub le_bytes : (at n j : ℕ) → j < n → get_or bs (at + j) 0 ≤ most bs at n
  unfolding most
  le_bytes at n j l = le_max (λ k. get_or bs (at + k) 0) n j l

  pub bytes_le : (at n t : ℕ) → ((j : ℕ) → j < n → get_or bs (at + j) 0 ≤ t) → most bs at n ≤ t
  unfolding most
  bytes_le at n t h = max_le (λ k. get_or bs (at + k) 0) n t h

  module _ (ms : List ℕ) where
    pub le_holes : (k n i : ℕ) → i < n → get_or ms (k + i) 0 ≡ 0 → most bs (16 * (k + i)) 16 ≤ holes bs ms k n
    unfolding holes
    le_holes k n i l z =
        omega (arith, le_max (λ j. free (most bs (16 * (k + j)) 16) (get_or ms (k + j) 0)) n i l, free_yes (most bs (16 * (k + i)) 16) (get_or ms (k + i) 0) z)

    pub holes_le : (k n t : ℕ) → ((i : ℕ) → i < n → get_or ms (k + i) 0 ≡ 0 → most bs (16 * (k + i)) 16 ≤ t) → holes bs ms k n ≤ t
    unfolding holes
    holes_le k n t h =
        max_le (λ j. free (most bs (16 * (k + j)) 16) (get_or ms (k + j) 0)) n t (λ i l.
        ⊎_elim (λ (z : get_or ms (k + i) 0 ≡ 0). omega (arith, free_yes (most bs (16 * (k + i)) 16) (get_or ms (k + i) 0) z, h i l z))
        (λ (nz : get_or ms (k + i) 0 ≡ 0 → ⊥). omega (arith, free_no (most bs (16 * (k + i)) 16) (get_or ms (k + i) 0) nz)) (eq_or_ne (get_or ms (k + i) 0) 0))

  module _ (ms : List ℕ) (f : Fit ms) (at : ℕ) (e : at ≡ least_to ms 64) where
    -- past the end all is zero
    pub tail_zero : Zeros bs ms → most bs at (1024 - at) ≡ 0
    tail_zero z =
        let h : most bs at (1024 - at) ≤ 0 = bytes_le at (1024 - at) 0 (λ j l.
        ⊎_elim (λ (u : get_or ms ((at + j) / 16) 0 ≡ 0). omega (arith, z (at + j) (omega arith) (omega arith)))
        (λ (nz : get_or ms ((at + j) / 16) 0 ≡ 0 → ⊥).
        omega (arith, z (at + j) (omega arith) (omega (arith, fact_fit ms f ((at + j) / 16) (omega arith) nz))))
        (eq_or_ne (get_or ms ((at + j) / 16) 0) 0)) in
        omega arith

    pub holes_zero : (k n : ℕ) → k + n ≤ 64 → Zeros bs ms → holes bs ms k n ≡ 0
    holes_zero k n kn z =
        let h : holes bs ms k n ≤ 0 = holes_le ms k n 0 (λ i l u.
        bytes_le (16 * (k + i)) 16 0 (λ j jl.
        let q : (16 * (k + i) + j) / 16 ≡ k + i = omega arith in
        let v : get_or ms ((16 * (k + i) + j) / 16) 0 ≡ 0 = rw q u in
        omega (arith, z (16 * (k + i) + j) (omega arith) (omega arith)))) in
        omega arith

    pub zeros_by : (k n : ℕ) → k ≡ 64 - free_to ms 64 → n ≡ top_to ms 64 - k → most bs at (1024 - at) ≡ 0 → holes bs ms k n ≡ 0 → Zeros bs ms
    zeros_by k n ek en t h x xl le =
        ⊎_elim
        (λ (lt : x < at).
        ⊎_elim
        (λ (u : get_or ms (x / 16) 0 ≡ 0).
        let a : k ≤ x / 16 = omega (arith, le_free ms 64 (x / 16) (omega arith) u) in
        let b : x / 16 < top_to ms 64 = omega (arith, low_top ms f) in
        let q : k + (x / 16 - k) ≡ x / 16 = omega arith in
        let s : 16 * (k + (x / 16 - k)) + x % 16 ≡ x = omega arith in
        let w : get_or bs (16 * (k + (x / 16 - k)) + x % 16) 0 ≡ get_or bs x 0 = ap (λ (y : ℕ). get_or bs y 0) s in
        omega (arith, le_holes ms k n (x / 16 - k) (omega arith) (rw q u), le_bytes (16 * (k + (x / 16 - k))) 16 (x % 16) (omega arith)))
        (λ (nz : get_or ms (x / 16) 0 ≡ 0 → ⊥). absurd (omega (arith, fact_fit ms f (x / 16) (omega arith) nz)))
        (eq_or_ne (get_or ms (x / 16) 0) 0))
        (λ (ge : at ≤ x).
        let s : at + (x - at) ≡ x = omega arith in
        let w : get_or bs (at + (x - at)) 0 ≡ get_or bs x 0 = ap (λ (y : ℕ). get_or bs y 0) s in
        omega (arith, le_bytes at (1024 - at) (x - at) (omega arith)))
        (lt_or_le x at)

-- the first unheard index

pub lowest_free : (ms : List ℕ) → 64 - free_to ms 64 ≡ lowest ms 64
lowest_free ms =
    let w : lowest ms 64 ≤ 64 = lowest_le ms 64 in
    let up : free_to ms 64 ≤ 64 - lowest ms 64 = free_le ms 64 (64 - lowest ms 64) (λ i l z.
    ⊎_elim (λ (lt : i < lowest ms 64). absurd (lowest_below ms 64 i lt z)) (λ (ge : lowest ms 64 ≤ i). omega arith) (lt_or_le i (lowest ms 64))) in
    ⊎_elim (λ (lt : lowest ms 64 < 64). omega (arith, le_free ms 64 (lowest ms 64) lt (lowest_at ms 64 lt))) (λ (ge : 64 ≤ lowest ms 64). omega arith)
    (lt_or_le (lowest ms 64) 64)

pub free_small : (ms : List ℕ) → free_to ms 64 ≤ 64
free_small ms = free_le ms 64 64 (λ i l z. omega arith)

-- a mark put in at an unheard index

module _ (ms : List ℕ) (em : length ms ≡ 64) (i m : ℕ) (il : i < 64) (z : get_or ms i 0 ≡ 0) where
  here : get_or (set ms i m) i 0 ≡ m
  here = get_or-set_same ms i m 0 (omega arith)

  other : (j : ℕ) → (j ≡ i → ⊥) → get_or (set ms i m) j 0 ≡ get_or ms j 0
  other j ne = get_or-set_other ms i j m 0 ne

  top_with : top_to (set ms i m) 64 ≡ max (top_to ms 64) (filled (i + 1) m)
  unfolding top_to
  top_with =
      max_with (λ k. filled (k + 1) (get_or ms k 0)) (λ k. filled (k + 1) (get_or (set ms i m) k 0)) 64 i il
      (filled_no (i + 1) (get_or ms i 0) (omega arith)) (λ j ne. ap (filled (j + 1)) (other j ne))
      ∙ ap (λ (x : ℕ). max (max_to (λ k. filled (k + 1) (get_or ms k 0)) 64) (filled (i + 1) x)) here

  gap_with : gap_to (set ms i m) 64 ≡ max (gap_to ms 64) (partly (64 - i) m)
  unfolding gap_to
  gap_with =
      max_with (λ k. partly (64 - k) (get_or ms k 0)) (λ k. partly (64 - k) (get_or (set ms i m) k 0)) 64 i il
      (partly_none (64 - i) (get_or ms i 0) z) (λ j ne. ap (partly (64 - j)) (other j ne))
      ∙ ap (λ (x : ℕ). max (max_to (λ k. partly (64 - k) (get_or ms k 0)) 64) (partly (64 - i) x)) here

  most_with : most_to (set ms i m) 64 ≡ max (most_to ms 64) m
  unfolding most_to
  most_with =
      max_with (λ k. get_or ms k 0) (λ k. get_or (set ms i m) k 0) 64 i il z (λ j ne. other j ne)
      ∙ ap (λ (x : ℕ). max (max_to (λ k. get_or ms k 0) 64) x) here

  pub marks_with : fits (shape_with (shape_of ms) i m) ≡ marks_fit (set ms i m)
  marks_with = rw (← top_with, ← gap_with, ← most_with) (marks_by_shape (set ms i m))

-- a part put in leaves the bytes' test as it was: only the marks are tested again
pub put_test : (c : Parts) (i : ℕ) (d : List ℕ) → length c.bytes ≡ 1024 → length c.marks ≡ 64 → i < 64 → length d ≤ 16
    → well_formed c ≡ true → get_or c.marks i 0 ≡ 0 → well_formed (put c i d) ≡ marks_fit (set c.marks i (suc (length d)))
put_test c i d eb em il dl w z =
    let b : bytes_fit (paste c.bytes (16 * i) d (length d)) (set c.marks i (suc (length d))) ≡ true =
    fact_bytes _ _ (zeros_put c.bytes c.marks d i eb em il dl (bytes_fact _ _ (both_right (marks_fit c.marks) _ w)) z) in
    ⊎_elim (λ (t : marks_fit (set c.marks i (suc (length d))) ≡ true). rw (t, b)) (λ (n : marks_fit (set c.marks i (suc (length d))) ≡ false). rw n)
    (bool_cases (marks_fit (set c.marks i (suc (length d)))))

-- for the code: a loop's turn, and what a shape that fits gives

module _ (ms : List ℕ) (i : ℕ) where
  pub top_next : top_to ms (i + 1) ≡ max (top_to ms i) (filled (i + 1) (get_or ms i 0))
  unfolding top_to max_to
  top_next = ap (top_to ms) (add-one i)

  pub gap_next : gap_to ms (i + 1) ≡ max (gap_to ms i) (partly (64 - i) (get_or ms i 0))
  unfolding gap_to max_to
  gap_next = ap (gap_to ms) (add-one i)

  pub most_next : most_to ms (i + 1) ≡ max (most_to ms i) (get_or ms i 0)
  unfolding most_to max_to
  most_next = ap (most_to ms) (add-one i)

  pub free_next : free_to ms (i + 1) ≡ max (free_to ms i) (free (64 - i) (get_or ms i 0))
  unfolding free_to max_to
  free_next = ap (free_to ms) (add-one i)

pub shape_next : (ms : List ℕ) (i : ℕ) → shape_with (shape_to ms i) i (get_or ms i 0) ≡ shape_to ms (i + 1)
shape_next ms i = rw (top_next ms i, gap_next ms i, most_next ms i, free_next ms i)

pub bytes_next : (bs : List ℕ) (at j : ℕ) → most bs at (j + 1) ≡ max (most bs at j) (get_or bs (at + j) 0)
unfolding most max_to
bytes_next bs at j = ap (most bs at) (add-one j)

-- of a part that is cut out
pub most_part : (bs : List ℕ) (at n : ℕ) → at + n ≤ length bs → most (mid_of at n bs) 0 (length (mid_of at n bs)) ≡ most bs at n
unfolding most
most_part bs at n h =
    let l : length (take n (drop at bs)) ≡ n = simp (length-take, length-drop) (omega arith) in
    rw l
    (max_same (λ j. get_or (take n (drop at bs)) (0 + j) 0) (λ j. get_or bs (at + j) 0) n (λ j jl.
    rw (zero-add j) (get_or-take n (drop at bs) j 0 jl ∙ get_or-drop at bs j 0)))

pub hole_is : (bs : List ℕ) (i m : ℕ) → length bs ≡ 1024 → i < 64 → m ≡ 0 → most (mid_of (16 * i) (16 * i + 16 - 16 * i) bs) 0 (length (mid_of (16 * i) (16 * i + 16 - 16 * i) bs)) ≡ free (most bs (16 * i) 16) m
hole_is bs i m e il z =
    let q : 16 * i + 16 - 16 * i ≡ 16 = omega arith in
    rw q (most_part bs (16 * i) 16 (omega arith)) ∙ sym (free_yes (most bs (16 * i) 16) m z)

holes_suc : (bs ms : List ℕ) (k n : ℕ) → holes bs ms k (suc n) ≡ max (holes bs ms k n) (free (most bs (16 * (k + n)) 16) (get_or ms (k + n) 0))
unfolding holes max_to
holes_suc bs ms k n = refl

pub holes_next : (bs ms : List ℕ) (k i : ℕ) → k ≤ i → holes bs ms k (i + 1 - k) ≡ max (holes bs ms k (i - k)) (free (most bs (16 * i) 16) (get_or ms i 0))
holes_next bs ms k i l =
    let q : i + 1 - k ≡ suc (i - k) = omega arith in
    let r : k + (i - k) ≡ i = omega arith in
    ap (holes bs ms k) q ∙ holes_suc bs ms k (i - k) ∙ ap (λ (x : ℕ). max (holes bs ms k (i - k)) (free (most bs (16 * x) 16) (get_or ms x 0))) r

pub holes_none : (bs ms : List ℕ) (k : ℕ) → 0 ≡ holes bs ms k (k - k)
unfolding holes max_to
holes_none bs ms k = let q : k - k ≡ 0 = omega arith in rw q

module _ (ms : List ℕ) (s : Shape) (h : ShapeFits ms s) where
  pub fit_of : Fit ms
  fit_of = fits_fit ms (subst (λ (x : Shape). fits x ≡ true) h.is h.fit)

  pub top_is : s.top ≡ top_to ms 64
  top_is = ap (λ (x : Shape). x.top) h.is

  pub free_is : s.free ≡ free_to ms 64
  free_is = ap (λ (x : Shape). x.free) h.is

  pub low_empty : s.top ≡ 0 → 0 ≡ least_to ms 64
  low_empty z = sym (low_none ms fit_of (sym top_is ∙ z))

  module _ (t : ℕ) (e : t ≡ s.top) (nz : t ≡ 0 → ⊥) where
    last_is : top_to ms 64 ≡ suc (t - 1)
    last_is = ⊎_elim (λ (pos : 0 < t). omega (arith, top_is)) (λ (z : t ≤ 0). absurd (nz (omega arith))) (lt_or_le 0 t)

    pub last_small : t - 1 < 64
    last_small = omega (arith, last_is, top_small ms 64)

    pub last_filled : 1 < get_or ms (t - 1) 0
    last_filled = top_at ms 64 (t - 1) last_is

    pub low_is : 16 * (t - 1) + (get_or ms (t - 1) 0 - 1) ≡ least_to ms 64
    low_is = sym (low_last ms fit_of (t - 1) last_is)

-- complete, by the shape

module _ (ms : List ℕ) (f : Fit ms) where
  low_is_free : lowest ms 64 ≡ 64 - free_to ms 64
  low_is_free = sym (lowest_free ms)

  -- the first part that is not full lies at 64 - gap, and none behind it has bytes
  short_before : 0 < lowest ms 64 → get_or ms (lowest ms 64 - 1) 0 < 17 → free_to ms 64 < gap_to ms 64
  short_before p q =
      let r : lowest ms 64 ≤ 64 = lowest_le ms 64 in
      let n : get_or ms (lowest ms 64 - 1) 0 ≡ 0 → ⊥ = lowest_below ms 64 (lowest ms 64 - 1) (omega arith) in
      let pos : 1 ≤ get_or ms (lowest ms 64 - 1) 0 = positive (get_or ms (lowest ms 64 - 1) 0) n in
      omega (arith, le_gap ms 64 (lowest ms 64 - 1) (omega arith) pos (omega arith), low_is_free, free_small ms)

  full_before : 0 < lowest ms 64 → 17 ≤ get_or ms (lowest ms 64 - 1) 0 → gap_to ms 64 ≤ free_to ms 64
  full_before p q =
      let r : lowest ms 64 ≤ 64 = lowest_le ms 64 in
      let t : lowest ms 64 - 1 + 1 ≤ top_to ms 64 = le_top ms 64 (lowest ms 64 - 1) (omega arith) (omega arith) in
      gap_le ms 64 (free_to ms 64) (λ i l a b.
      ⊎_elim
      (λ (lt : i < lowest ms 64).
      let e : i ≡ lowest ms 64 - 1 = omega (arith, le_gap ms 64 i l a b, f.order) in
      let s : get_or ms i 0 ≡ get_or ms (lowest ms 64 - 1) 0 = ap (λ (x : ℕ). get_or ms x 0) e in
      absurd (omega arith))
      (λ (ge : lowest ms 64 ≤ i). omega (arith, low_is_free, free_small ms))
      (lt_or_le i (lowest ms 64)))

  gap_small : gap_to ms 64 ≤ 64
  gap_small = gap_le ms 64 64 (λ i l a b. omega arith)

  pub complete_by_shape : complete_shape (shape_of ms) ≡ complete_by ms
  complete_by_shape =
      ⊎_elim
      (λ (z : free_to ms 64 ≡ 0). rw (eq-eqb (free_to ms 64) 0 z, eq-eqb (lowest ms 64) 64 (omega (arith, low_is_free))))
      (λ (nz : free_to ms 64 ≡ 0 → ⊥).
      let pos : 1 ≤ free_to ms 64 = positive (free_to ms 64) nz in
      let ne : lowest ms 64 ≡ 64 → ⊥ = λ (q : lowest ms 64 ≡ 64). omega (arith, low_is_free) in
      ⊎_elim
      (λ (p : 0 < lowest ms 64).
      ⊎_elim
      (λ (q : get_or ms (lowest ms 64 - 1) 0 < 17).
      rw (ne_eqb (free_to ms 64) 0 nz, ne_eqb (lowest ms 64) 64 ne, lt-ltb 0 (lowest ms 64) p, lt-ltb (get_or ms (lowest ms 64 - 1) 0) 17 q, lt-ltb (free_to ms 64) (gap_to ms 64) (short_before p q)))
      (λ (q : 17 ≤ get_or ms (lowest ms 64 - 1) 0).
      rw (ne_eqb (free_to ms 64) 0 nz, ne_eqb (lowest ms 64) 64 ne, lt-ltb 0 (lowest ms 64) p, le-ltb (get_or ms (lowest ms 64 - 1) 0) 17 q, le-ltb (free_to ms 64) (gap_to ms 64) (full_before p q)))
      (lt_or_le (get_or ms (lowest ms 64 - 1) 0) 17))
      (λ (p : lowest ms 64 ≤ 0).
      rw (ne_eqb (free_to ms 64) 0 nz, ne_eqb (lowest ms 64) 64 ne, le-ltb 0 (lowest ms 64) p, le-ltb (free_to ms 64) (gap_to ms 64) (omega (arith, low_is_free, gap_small))))
      (lt_or_le 0 (lowest ms 64)))
      (eq_or_ne (free_to ms 64) 0)

-- the bytes' test, as the code makes it

module _ (bs ms : List ℕ) (s : Shape) (h : ShapeFits ms s) (at : ℕ) (e : at ≡ least_to ms 64) where
  pub at_within : at ≤ 1024
  at_within = omega (arith, low_within ms (fit_of ms s h))

  pub top_within : s.top ≤ 64
  top_within = omega (arith, top_is ms s h, top_small ms 64)

  pub free_within : s.free ≤ 64
  free_within = omega (arith, free_is ms s h, free_small ms)

  pub tail_tells : (most bs at (1024 - at) ≡ 0 → ⊥) → bytes_fit bs ms ≡ false
  tail_tells n =
      ⊎_elim (λ (y : bytes_fit bs ms ≡ true). absurd (n (tail_zero bs ms (fit_of ms s h) at e (bytes_fact bs ms y)))) (λ (z : bytes_fit bs ms ≡ false). z)
      (bool_cases (bytes_fit bs ms))

  pub holes_tell : most bs at (1024 - at) ≡ 0 → (k t : ℕ) → k ≡ s.free → t ≡ s.top → eqb (holes bs ms (64 - k) (t - (64 - k))) 0 ≡ bytes_fit bs ms
  holes_tell z k t ek et =
      let fk : k ≡ free_to ms 64 = ek ∙ free_is ms s h in
      let ft : t ≡ top_to ms 64 = et ∙ top_is ms s h in
      ⊎_elim
      (λ (q : holes bs ms (64 - k) (t - (64 - k)) ≡ 0).
      eq-eqb _ _ q ∙ sym (fact_bytes bs ms (zeros_by bs ms (fit_of ms s h) at e (64 - k) (t - (64 - k)) (omega arith) (omega arith) z q)))
      (λ (ne : holes bs ms (64 - k) (t - (64 - k)) ≡ 0 → ⊥).
      ne_eqb _ _ ne
      ∙ ⊎_elim
      (λ (y : bytes_fit bs ms ≡ true).
      absurd (ne (⊎_elim
      (λ (fits_in : 64 - k + (t - (64 - k)) ≤ 64). holes_zero bs ms (fit_of ms s h) at e (64 - k) (t - (64 - k)) fits_in (bytes_fact bs ms y))
      (λ (far : 64 < 64 - k + (t - (64 - k))). absurd (omega (arith, top_within)))
      (le_or_lt (64 - k + (t - (64 - k))) 64))))
      (λ (x : bytes_fit bs ms ≡ false). sym x)
      (bool_cases (bytes_fit bs ms)))
      (eq_or_ne (holes bs ms (64 - k) (t - (64 - k))) 0)
    where
      le_or_lt : (a b : ℕ) → (a ≤ b) ⊎ (b < a)
      le_or_lt a b = ⊎_elim (λ (x : b < a). inr x) (λ (x : a ≤ b). inl x) (lt_or_le b a)
