-- What each entry answers, by the tests that the code makes.
use Prim.Native.Nat.{ℕ, suc, ◌+◌, ◌-◌, ◌*◌, ◌≤◌, ◌<◌}
use mathlib.Core.Path.{◌≡◌, refl, sym, ap, ◌∙◌}
use mathlib.Core.Logic.{⊎_elim}
use mathlib.Core.List.{List, [], ◌∷◌}
use mathlib.Core.Bool.{true, false}
use native.Mathlib.Omega.{arith}
use native.Mathlib.Numerals.{add-one}
use lib.ListN.{length, get_or, set, take, drop}
use lib.Dec.{eqb}
use lib.Pointwise.{pointwise}
use borrow.Rule.Slice.PartMut.{mid_of}
use Rattle.std.proofs.lemmas.List.{get_or-take, get_or-drop, length-take, length-drop, ext_get_or}
use Rattle.std.proofs.lemmas.Slice.Eq.{slice_eq-Decides}
use Rattle.std.proofs.lemmas.Bool.Decides.{Decides-eqb}
use borrow.Author.Tests.{eq-eqb, ne_eqb, lt-ltb, le-ltb, eqb-true}
use Rattle.base.specs.Outcome.{accepted, refused}
use Rattle.std.specs.Prelude.{Ok}
use Rattle.collector.specs.Parts.{Parts}
use Rattle.collector.specs.declared.tested.Judgement.TheVariants.{Store}
use Rattle.collector.specs.declared.shape.Shape.{Shape}
use Rattle.collector.specs.Collector.{marks_fit, bytes_fit, well_formed, stands_at, has_part, put, joining, taking, is_complete, standing_of, list_of, least_to, lowest, held}
use Rattle.collector.specs.declared.Status.TheVariants.{Complete, Missing}
use Rattle.collector.specs.Shape.{shape_of, fits, complete_shape, ShapeFits, shape_with, Judged}
use Rattle.collector.proofs.Basic.{true_not_false, both_left, bool_cases, all_of, all_at}
use Rattle.collector.proofs.shape.Laws.{marks_by_shape, marks_with, put_test, lowest_free, free_small, fit_of, complete_by_shape}

-- a comparison of slices, as the code makes it
pub stands_by : (bs p : List ℕ) (at : ℕ) → at + length p ≤ length bs → pointwise eqb (mid_of at (at + length p - at) bs) p ≡ stands_at bs at p
unfolding stands_at
stands_by bs p at h =
    let k : at + length p - at ≡ length p = omega arith in
    let part : List ℕ = take (length p) (drop at bs) in
    let l : length part ≡ length p = simp (length-take, length-drop) (omega arith) in
    let d = slice_eq-Decides Decides-eqb part p (pointwise eqb part p) refl in
    let reads : (i : ℕ) → i < length p → get_or part i 0 ≡ get_or bs (at + i) 0 = λ i il. get_or-take (length p) (drop at bs) i 0 il ∙ get_or-drop at bs i 0 in
    rw k
    (⊎_elim
    (λ (y : stands_at bs at p ≡ true).
    d.1 (ext_get_or 0 part p l (λ i il. let jl : i < length p = omega arith in reads i jl ∙ eqb-true _ _ (all_at (λ j. eqb (get_or bs (at + j) 0) (get_or p j 0)) (length p) y i jl))) ∙ sym y)
    (λ (n : stands_at bs at p ≡ false).
    ⊎_elim
    (λ (t : pointwise eqb part p ≡ true).
    absurd (true_not_false (all_of (λ j. eqb (get_or bs (at + j) 0) (get_or p j 0)) (length p) (λ i il. eq-eqb _ _ (sym (reads i il) ∙ ap (λ (x : List ℕ). get_or x i 0) (d.0 t)))) n))
    (λ (f : pointwise eqb part p ≡ false). f ∙ sym n)
    (bool_cases (pointwise eqb part p)))
    (bool_cases (stands_at bs at p)))

-- an answer

module _ (c : Parts) (i : ℕ) (d : List ℕ) where
  pub taking_9 : well_formed c ≡ false → taking c i d ≡ refused 9 []
  unfolding taking
  taking_9 w = rw w

  taking_7 : well_formed c ≡ true → 63 < i → taking c i d ≡ refused 7 []
  unfolding taking
  taking_7 w h = rw (w, lt-ltb 63 i h)

  taking_2 : well_formed c ≡ true → i ≤ 63 → 16 < length d → taking c i d ≡ refused 2 []
  unfolding taking
  taking_2 w h k = rw (w, le-ltb 63 i h, lt-ltb 16 (length d) k)

  module _ (w : well_formed c ≡ true) (h : i ≤ 63) (k : length d ≤ 16) where
    taking_on : taking c i d ≡ joining c i d
    unfolding taking
    taking_on = rw (w, le-ltb 63 i h, le-ltb 16 (length d) k)

    joins : get_or c.marks i 0 ≡ 0 → well_formed (put c i d) ≡ true → taking c i d ≡ accepted (put c i d)
    joins z e = taking_on ∙ rw (eq-eqb (get_or c.marks i 0) 0 z, e)

    clashes : get_or c.marks i 0 ≡ 0 → well_formed (put c i d) ≡ false → taking c i d ≡ refused 12 []
    clashes z e = taking_on ∙ rw (eq-eqb (get_or c.marks i 0) 0 z, e)

    repeats : (get_or c.marks i 0 ≡ 0 → ⊥) → has_part c i d ≡ true → taking c i d ≡ accepted c
    repeats z e = taking_on ∙ rw (ne_eqb (get_or c.marks i 0) 0 z, e)

    differs : (get_or c.marks i 0 ≡ 0 → ⊥) → has_part c i d ≡ false → taking c i d ≡ refused 12 []
    differs z e = taking_on ∙ rw (ne_eqb (get_or c.marks i 0) 0 z, e)

  has_not : (get_or c.marks i 0 ≡ suc (length d) → ⊥) → has_part c i d ≡ false
  unfolding has_part
  has_not ne = rw (ne_eqb (get_or c.marks i 0) (suc (length d)) ne)

  has_is : get_or c.marks i 0 ≡ suc (length d) → has_part c i d ≡ stands_at c.bytes (16 * i) d
  unfolding has_part
  has_is e = rw (eq-eqb (get_or c.marks i 0) (suc (length d)) e)

-- the same by the shape of the marks, as the code finds it

module _ (bs ms : List ℕ) (s : Shape) (es : s ≡ shape_of ms) where
  fits_marks : fits s ≡ marks_fit ms
  fits_marks = ap fits es ∙ marks_by_shape ms

  pub formed_not : fits s ≡ false → well_formed (held bs ms) ≡ false
  formed_not e = let m : marks_fit ms ≡ false = sym fits_marks ∙ e in rw m

  pub formed_by : fits s ≡ true → well_formed (held bs ms) ≡ bytes_fit bs ms
  formed_by e = let m : marks_fit ms ≡ true = sym fits_marks ∙ e in rw m

  pub free_within : s.free ≤ 64
  free_within = omega (arith, ap (λ (x : Shape). x.free) es, free_small ms)

  pub lowest_by : 64 - s.free ≡ lowest ms 64
  lowest_by = ap (λ (x : Shape). 64 - x.free) es ∙ lowest_free ms

  module _ (w : well_formed (held bs ms) ≡ true) where
    pub shape_fits : ShapeFits ms s
    shape_fits = record { is = es; fit = fits_marks ∙ both_left (marks_fit ms) (bytes_fit bs ms) w }

    pub complete_by_lem : complete_shape s ≡ is_complete (held bs ms)
    unfolding is_complete
    complete_by_lem = ap complete_shape es ∙ complete_by_shape ms (fit_of ms s shape_fits)

    module _ (i : ℕ) (d : List ℕ) where
      pub says_7 : 63 < i → taking (held bs ms) i d ≡ refused 7 []
      says_7 h = taking_7 (held bs ms) i d w h

      pub says_2 : i ≤ 63 → 16 < length d → taking (held bs ms) i d ≡ refused 2 []
      says_2 h k = taking_2 (held bs ms) i d w h k

      module _ (h : i ≤ 63) (k : length d ≤ 16) (m n : ℕ) (em : m ≡ get_or ms i 0) (en : n ≡ length d + 1) where
        n_is : n ≡ suc (length d)
        n_is = en ∙ add-one (length d)

        module _ (z : m ≡ 0) (lb : length bs ≡ 1024) (lm : length ms ≡ 64) where
          put_by : well_formed (put (held bs ms) i d) ≡ fits (shape_with s i n)
          put_by =
              put_test (held bs ms) i d lb lm (omega arith) k w (sym em ∙ z)
              ∙ ap (λ (x : ℕ). marks_fit (set ms i x)) (sym n_is)
              ∙ sym (marks_with ms lm i n (omega arith) (sym em ∙ z))
              ∙ ap (λ (x : Shape). fits (shape_with x i n)) (sym es)

          pub says_store : fits (shape_with s i n) ≡ true → Judged (held bs ms) i d (Ok Store)
          says_store f = (joins (held bs ms) i d w h k (sym em ∙ z) (put_by ∙ f), (h, k))

          pub says_clash : fits (shape_with s i n) ≡ false → taking (held bs ms) i d ≡ refused 12 []
          says_clash f = clashes (held bs ms) i d w h k (sym em ∙ z) (put_by ∙ f)

        module _ (nz : m ≡ 0 → ⊥) where
          heard : get_or ms i 0 ≡ 0 → ⊥
          heard q = nz (em ∙ q)

          pub says_other : (m ≡ n → ⊥) → taking (held bs ms) i d ≡ refused 12 []
          says_other ne = differs (held bs ms) i d w h k heard (has_not (held bs ms) i d (λ q. ne (em ∙ q ∙ sym n_is)))

          module _ (eq : m ≡ n) where
            has_by : (at : ℕ) → at ≡ 16 * i → has_part (held bs ms) i d ≡ stands_at bs at d
            has_by at e = has_is (held bs ms) i d (sym em ∙ eq ∙ n_is) ∙ ap (λ (x : ℕ). stands_at bs x d) (sym e)

            pub says_keep : (at : ℕ) → at ≡ 16 * i → stands_at bs at d ≡ true → taking (held bs ms) i d ≡ accepted (held bs ms)
            says_keep at e f = repeats (held bs ms) i d w h k heard (has_by at e ∙ f)

            pub says_differs : (at : ℕ) → at ≡ 16 * i → stands_at bs at d ≡ false → taking (held bs ms) i d ≡ refused 12 []
            says_differs at e f = differs (held bs ms) i d w h k heard (has_by at e ∙ f)

-- where it stands

module _ (c : Parts) where
  pub standing_9 : well_formed c ≡ false → standing_of c ≡ refused 9 []
  standing_9 w = rw w

  pub standing_complete : well_formed c ≡ true → is_complete c ≡ true → standing_of c ≡ accepted (Complete (least_to c.marks 64))
  standing_complete w e = rw (w, e)

  pub standing_missing : well_formed c ≡ true → is_complete c ≡ false → standing_of c ≡ accepted (Missing (lowest c.marks 64))
  standing_missing w e = rw (w, e)

  pub list_9 : well_formed c ≡ false → list_of c ≡ refused 9 []
  list_9 w = rw w

  pub list_complete : well_formed c ≡ true → is_complete c ≡ true → list_of c ≡ accepted (take (least_to c.marks 64) c.bytes)
  list_complete w e = rw (w, e)

  pub list_missing : well_formed c ≡ true → is_complete c ≡ false → list_of c ≡ refused 13 (lowest c.marks 64 ∷ [])
  list_missing w e = rw (w, e)
