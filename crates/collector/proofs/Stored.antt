-- What is stored is what a search finds, and what each entry answers by it.
use Prim.Native.Nat.{ℕ, suc, ◌+◌, ◌-◌, ◌*◌, ◌≤◌}
use mathlib.Core.Bool.{Bool, true, false}
use mathlib.Core.List.{List, [], ◌∷◌}
use mathlib.Core.Logic.{⊎_elim}
use mathlib.Core.Path.{◌≡◌, refl, sym, ap, ◌∙◌}
use native.Mathlib.Numerals.{add-one}
use native.Mathlib.Omega.{arith}
use lib.Dec.{eqb}
use lib.ListN.{length, get_or, set}
use lib.Seq.{paste, get_or-set_same, get_or-set_other}
use mir.Val.{bool_byte}
use borrow.Author.Tests.{eq-eqb, ne_eqb, eqb-true}
use Rattle.base.specs.Outcome.{accepted, refused, ◌>>=◌}
use Rattle.base.specs.Refusal.{refusal}
use Rattle.base.specs.declared.refusal.Refusal.{Refusal}
use Rattle.std.specs.Prelude.{Result, Ok, Err}
use Rattle.collector.specs.Collector.{held, lowest, least_to, complete_by, is_complete, well_formed, put, taking, standing_of, list_by}
use Rattle.collector.specs.declared.Status.TheVariants.{Complete, Missing}
use Rattle.collector.specs.Shape.{complete_shape, shape_of, HeardBelow, Judged, JudgedStored}
use Rattle.collector.specs.Stored.{found, collector_of, parts_of, knowing, knows, well_stored, taking_stored, standing_stored, list_stored}
use Rattle.collector.specs.declared.Collector.{Collector}
use Rattle.collector.specs.declared.tested.Judgement.{Judgement}
use Rattle.collector.specs.declared.tested.Judgement.TheVariants.{Store, Keep}
use Rattle.collector.specs.declared.shape.Shape.{Shape}
use Rattle.collector.proofs.Basic.{both_left, both_right, bool_cases, eq_or_ne, low_small}
use Rattle.collector.proofs.Complete.{lowest_below}
use Rattle.collector.proofs.Entries.{lowest_by, complete_by_lem, standing_complete, standing_missing}
use Rattle.collector.proofs.Step.{wf_marks}

-- the test, by the shape of the marks

module _ (bs ms : List ℕ) (s : Shape) (es : s ≡ shape_of ms) (w : well_formed (held bs ms) ≡ true) (ks : List ℕ) (x : ℕ) (e : x ≡ 64 - s.free) where
  low : x ≡ lowest ms 64
  low = e ∙ lowest_by bs ms s es

  pub not_low : (get_or ks 0 0 ≡ x → ⊥) → well_stored (collector_of bs ms ks) ≡ false
  unfolding knows
  not_low n = rw (w, ne_eqb (get_or ks 0 0) (lowest ms 64) (λ q. n (q ∙ sym low)))

  pub by_complete : get_or ks 0 0 ≡ x → (b : Bool) → b ≡ complete_shape s → eqb (get_or ks 1 0) (bool_byte b) ≡ well_stored (collector_of bs ms ks)
  unfolding knows is_complete
  by_complete q b f =
      let g : well_stored (collector_of bs ms ks) ≡ eqb (get_or ks 1 0) (bool_byte (complete_by ms)) = rw (w, eq-eqb (get_or ks 0 0) (lowest ms 64) (q ∙ low)) in
      ap (λ (z : Bool). eqb (get_or ks 1 0) (bool_byte z)) (f ∙ complete_by_lem bs ms s es w) ∙ sym g

-- a collector that passes the test is the one that its parts make

two_list : (ks : List ℕ) → length ks ≡ 2 → ks ≡ get_or ks 0 0 ∷ get_or ks 1 0 ∷ []
two_list [] e = absurd (omega arith)
two_list (a ∷ []) e = absurd (omega arith)
two_list (a ∷ b ∷ []) e = refl
two_list (a ∷ b ∷ c ∷ ks) e = absurd (omega arith)

module _ (k : Collector) (w : well_stored k ≡ true) where
  pub parts_formed : well_formed (parts_of k) ≡ true
  parts_formed = both_left (well_formed (parts_of k)) (knows k) w

  both : (eqb (get_or k.known 0 0) (lowest k.marks 64) ≡ true) × (eqb (get_or k.known 1 0) (bool_byte (complete_by k.marks)) ≡ true)
  unfolding knows
  both = let z = both_right (well_formed (parts_of k)) (knows k) w in (both_left _ _ z, both_right (eqb (get_or k.known 0 0) (lowest k.marks 64)) _ z)

  pub low_known : get_or k.known 0 0 ≡ lowest k.marks 64
  low_known = eqb-true _ _ both.0

  complete_known : get_or k.known 1 0 ≡ bool_byte (complete_by k.marks)
  complete_known = eqb-true _ _ both.1

  pub knowing_is : length k.known ≡ 2 → knowing (parts_of k) ≡ k
  knowing_is e = ap (collector_of k.bytes k.marks) (sym (two_list k.known e ∙ rw (low_known, complete_known)))

  -- so what is stored answers

  pub says_complete : get_or k.known 1 0 ≡ 1 → (n : ℕ) → n ≡ least_to k.marks 64 → accepted (Complete n) ≡ standing_stored k
  unfolding is_complete
  says_complete e n q =
      ⊎_elim (λ (y : complete_by k.marks ≡ true). rw w (ap (λ (x : ℕ). accepted (Complete x)) q ∙ sym (standing_complete (parts_of k) parts_formed y)))
      (λ (z : complete_by k.marks ≡ false). absurd (omega (arith, e, complete_known, ap bool_byte z)))
      (bool_cases (complete_by k.marks))

  pub says_missing : (get_or k.known 1 0 ≡ 1 → ⊥) → accepted (Missing (get_or k.known 0 0)) ≡ standing_stored k
  unfolding is_complete
  says_missing e =
      ⊎_elim (λ (y : complete_by k.marks ≡ true). absurd (e (complete_known ∙ ap bool_byte y)))
      (λ (z : complete_by k.marks ≡ false). rw w (ap (λ (x : ℕ). accepted (Missing x)) low_known ∙ sym (standing_missing (parts_of k) parts_formed z)))
      (bool_cases (complete_by k.marks))

-- an answer

module _ (k : Collector) (i : ℕ) (d : List ℕ) where
  pub untested : well_stored k ≡ false → taking_stored k i d ≡ refused 9 []
  unfolding taking_stored
  untested w = rw w

  module _ (w : well_stored k ≡ true) where
    on : taking_stored k i d ≡ (taking (parts_of k) i d >>= (λ c. accepted (knowing c)))
    unfolding taking_stored
    on = rw w

    pub judged : length k.known ≡ 2 → (v : Result Judgement Refusal) → Judged (parts_of k) i d v → JudgedStored k i d v
    judged n (Ok Store) (e, (h, l)) = (on ∙ rw e, (low_known k w, (h, l)))
    judged n (Ok Keep) e = on ∙ rw e (ap accepted (knowing_is k w n))
    judged n (Err r) e = on ∙ rw e

-- a part is stored, and what a search finds then

two_set : (ks : List ℕ) (x y : ℕ) → length ks ≡ 2 → set (set ks 0 x) 1 y ≡ x ∷ y ∷ []
two_set [] x y e = absurd (omega arith)
two_set (a ∷ []) x y e = absurd (omega arith)
two_set (a ∷ b ∷ []) x y e = refl
two_set (a ∷ b ∷ c ∷ ks) x y e = absurd (omega arith)

module _ (bs ms ks : List ℕ) (i : ℕ) (d : List ℕ) where
  pub heard_still : length ms ≡ 64 → i ≤ 63 → get_or ks 0 0 ≡ lowest ms 64 → HeardBelow (set ms i (length d + 1)) (get_or ks 0 0)
  heard_still lm il e j jl z =
      ⊎_elim (λ (q : j ≡ i). let h : get_or (set ms i (length d + 1)) i 0 ≡ length d + 1 = get_or-set_same ms i (length d + 1) 0 (omega arith) in omega (arith, rw q at z))
      (λ (n : j ≡ i → ⊥). lowest_below ms 64 j (omega arith) (sym (get_or-set_other ms i j (length d + 1) 0 n) ∙ z))
      (eq_or_ne j i)

  pub stored_as : length ks ≡ 2 → (at : ℕ) → at ≡ 16 * i → (bs' ms' ks' : List ℕ) → bs' ≡ paste bs at d (length d) → ms' ≡ set ms i (length d + 1) → (x : ℕ) → x ≡ lowest ms' 64 → (b : Bool) → b ≡ complete_by ms' → ks' ≡ set (set ks 0 x) 1 (bool_byte b) → collector_of bs' ms' ks' ≡ knowing (put (held bs ms) i d)
  stored_as lk at a bs' ms' ks' p' q x ex b eb u' =
      let p : bs' ≡ paste bs (16 * i) d (length d) = p' ∙ ap (λ (n : ℕ). paste bs n d (length d)) a in
      let f : ms' ≡ set ms i (suc (length d)) = q ∙ ap (set ms i) (add-one (length d)) in
      let u : ks' ≡ found ms' = u' ∙ two_set ks x (bool_byte b) lk ∙ rw (ex, eb) in
      ap (collector_of bs' ms') u ∙ ap (λ (c : List ℕ). collector_of bs' c (found c)) f ∙ ap (λ (c : List ℕ). knowing (held c (set ms i (suc (length d))))) p

-- where it stands

module _ (k : Collector) where
  pub untold : well_stored k ≡ false → standing_stored k ≡ refused 9 []
  untold w = rw w

  pub told : well_stored k ≡ true → standing_stored k ≡ standing_of (parts_of k)
  told w = rw w

  by_standing : list_stored k ≡ (standing_stored k >>= list_by k.bytes)
  by_standing = ⊎_elim (λ (w : well_stored k ≡ true). rw w) (λ (w : well_stored k ≡ false). rw w) (bool_cases (well_stored k))

  -- the length of a complete list
  pub told_within : (n : ℕ) → standing_stored k ≡ accepted (Complete n) → n ≤ 1024
  told_within n e =
      ⊎_elim
      (λ (w : well_stored k ≡ true).
      ⊎_elim
      (λ (y : is_complete (parts_of k) ≡ true). let q : n ≡ least_to k.marks 64 = cc (e, told w, standing_complete (parts_of k) (parts_formed k w) y) in omega (arith, low_small k.marks (least_to k.marks 64) (wf_marks (parts_of k) (parts_formed k w))))
      (λ (z : is_complete (parts_of k) ≡ false). let q : ◌≡◌ {A = ℕ} 0 1 = cc (e, told w, standing_missing (parts_of k) (parts_formed k w) z) in absurd (omega arith))
      (bool_cases (is_complete (parts_of k))))
      (λ (u : well_stored k ≡ false). let q : ◌≡◌ {A = ℕ} 0 1 = cc (e, untold u) in absurd (omega arith))
      (bool_cases (well_stored k))

  pub unlisted : (i : ℕ) → standing_stored k ≡ accepted (Missing i) → list_stored k ≡ refused 13 (i ∷ [])
  unlisted i e = by_standing ∙ rw e

  -- a collector that has no status has no list
  pub unformed : (r : Refusal) → standing_stored k ≡ refusal r → list_stored k ≡ refusal r
  unformed r e = by_standing ∙ rw e
