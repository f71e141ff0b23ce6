-- A collector's parts keep demand 3 (specs/Demand.antt), and with them the collector (Storing.antt); and what document 01 says of it besides. A history is any list of calls, the latest first.
use Prim.Native.Nat.{ℕ, suc, ◌+◌, ◌-◌, ◌*◌, ◌/◌, ◌≤◌, ◌<◌, min}
use mathlib.Core.Bool.{true, false}
use mathlib.Core.List.{List, [], ◌∷◌}
use mathlib.Core.Logic.{◌↔◌, ◌⊎◌, inl, inr, ⊎_elim}
use mathlib.Core.Path.{◌≡◌, refl, sym, ap, ◌∙◌, subst}
use native.Mathlib.Omega.{arith}
use lib.ListN.{length, drop, get_or}
use Rattle.base.specs.Field.{Bytes}
use Rattle.base.specs.Outcome.{Outcome, accepted, refused, is_accepted}
use Rattle.base.proofs.little.Laws.{bytes_drop, bytes_take}
use Rattle.collector.specs.Collector.{last_index, part_length, capacity, answer_of, well_formed, taking, lowest, is_complete, standing_of, list_of}
use Rattle.collector.specs.declared.Status.TheVariants.{Complete, Missing}
use Rattle.collector.specs.Demand.{Call, AllBytes, HeardIn, Explains, AllHeard, Explained, Demand3, IsList, controllers, collecting}
use Rattle.collector.specs.Histories.{Among, Reachable, Typed, after, accepted_of}
use Rattle.collector.specs.Parts.{Parts}
use Rattle.collector.proofs.Basic.{true_not_false, bool_cases, lt_or_le, eq_or_ne}
use Rattle.collector.proofs.Complete.{lowest_below, lowest_at, incomplete_low, complete_heard, complete_low, complete_bytes, heard_complete}
use Rattle.collector.proofs.Entries.{taking_9, standing_9, standing_complete, standing_missing, list_9, list_complete, list_missing}
use Rattle.collector.proofs.Heard.{known, among_explains, among_heard, heard_among, repeat_by}
use Rattle.collector.proofs.History.{history, explained, accepted_explained, explained_accepted}
use Rattle.collector.proofs.Keeping.{not_exactly, explained_bytes, none_refused, asking_ends}
use Rattle.collector.proofs.Parts.{answer_length, answer_at}
use Rattle.collector.proofs.Reach.{wf_reachable, reachable_wf}
use Rattle.collector.proofs.Step.{TellsOf, wf_zeros, StepView, view}
use Rattle.collector.proofs.Step.StepView.{bad_index, too_long, repeats, differs, joins, clashes}

-- where it stands, told

complete_or : (c : Parts) (n : ℕ) → well_formed c ≡ true → standing_of c ≡ accepted (Complete n) → is_complete c ≡ true
complete_or c n w e =
    ⊎_elim (λ (t : is_complete c ≡ true). t)
    (λ (f : is_complete c ≡ false). let z : ◌≡◌ {A = ℕ} 0 1 = cc (standing_missing c w f) in absurd (omega arith))
    (bool_cases (is_complete c))

missing_or : (c : Parts) (k : ℕ) → well_formed c ≡ true → standing_of c ≡ accepted (Missing k) → (is_complete c ≡ false) × (k ≡ lowest c.marks 64)
missing_or c k w e =
    ⊎_elim (λ (t : is_complete c ≡ true). let z : ◌≡◌ {A = ℕ} 0 1 = cc (standing_complete c w t) in absurd (omega arith))
    (λ (f : is_complete c ≡ false). (f, cc (standing_missing c w f)))
    (bool_cases (is_complete c))

-- Of any history.
module _ (h : List Call) (u : AllBytes h) where
  -- where an index is missing, it is the lowest that no accepted answer has
  pub lowest_named : (k : ℕ) → standing_of (after h) ≡ accepted (Missing k) → (HeardIn k (accepted_of h) → ⊥) × ((j : ℕ) → j < k → HeardIn j (accepted_of h)) × (k ≤ last_index)
  lowest_named k e =
      let (f, q) = missing_or (after h) k (history h u).wf e in
      let low : lowest (after h).marks 64 < 64 = incomplete_low (after h) f in (
        λ x. ((known h u).marked k x).1 (rw q (lowest_at (after h).marks 64 low)),
        λ j jl. (known h u).heard j (lowest_below (after h).marks 64 j (omega arith)),
        omega arith,
      )

  -- "It holds up to 64 parts with their lengths": the part of each accepted answer
  pub part_held : (a : Call) → Among a (accepted_of h) → (get_or (after h).marks a.index 0 ≡ suc (length a.content)) × ((j : ℕ) → j < length a.content → get_or (after h).bytes (part_length * a.index + j) 0 ≡ get_or a.content j 0)
  part_held a x =
      let l : Explained controllers (accepted_of h) = explained h u in
      let t : TellsOf l.source (after h) = (history h u).from l.source l.suits.size l.explains in
      let e : answer_of l.source a.index ≡ a.content = among_explains l.source a (accepted_of h) x l.explains in
      let k = (known h u).marked a.index (among_heard a (accepted_of h) x) in
      let n : length a.content ≡ min 16 (length l.source - 16 * a.index) = sym (ap length e) ∙ answer_length l.source a.index in (
        omega (arith, t.marks a.index k.0 k.1),
        λ j jl.
            let q : (16 * a.index + j) / 16 ≡ a.index = omega arith in
            t.bytes (16 * a.index + j) (omega arith) (λ z. k.1 (rw q at z)) ∙ sym (answer_at l.source a.index j (omega arith)) ∙ ap (λ (s : List ℕ). get_or s j 0) e,
      )

  -- "bytes not heard are zero": each that no accepted answer has, behind a short part too
  pub rest_zero : (k : ℕ) → k < capacity → ((a : Call) → Among a (accepted_of h) → part_length * a.index ≤ k → k < part_length * a.index + length a.content → ⊥) → get_or (after h).bytes k 0 ≡ 0
  rest_zero k kl none =
      ⊎_elim (λ (z : get_or (after h).marks (k / 16) 0 ≡ 0). wf_zeros (after h) (history h u).wf k kl (omega arith))
      (λ (nz : get_or (after h).marks (k / 16) 0 ≡ 0 → ⊥).
      let (a, x, e) = heard_among (k / 16) (accepted_of h) ((known h u).heard (k / 16) nz) in
      let m : get_or (after h).marks (k / 16) 0 ≡ suc (length a.content) = rw e at (part_held a x).0 in
      ⊎_elim (λ (lt : k < 16 * a.index + length a.content). absurd (none a x (omega arith) lt))
      (λ (ge : 16 * a.index + length a.content ≤ k). wf_zeros (after h) (history h u).wf k kl (omega arith)) (lt_or_le k (16 * a.index + length a.content)))
      (eq_or_ne (get_or (after h).marks (k / 16) 0) 0)

  -- "An equal repeat is accepted and changes nothing"
  pub repeat_same : (a : Call) → Among a (accepted_of h) → taking (after h) a.index a.content ≡ accepted (after h)
  repeat_same a x =
      let l : Explained controllers (accepted_of h) = explained h u in
      let e : answer_of l.source a.index ≡ a.content = among_explains l.source a (accepted_of h) x l.explains in
      let k = (known h u).marked a.index (among_heard a (accepted_of h) x) in
      repeat_by (after h) a.index a.content l.source ((history h u).from l.source l.suits.size l.explains) e k.0
      (omega (arith, ap length e, answer_length l.source a.index)) k.1 _ (view (after h) a.index a.content (history h u).wf)

  -- One more answer.
  module _ (a : Call) (v : Bytes a.content) where
    exactly : is_accepted (taking (after h) a.index a.content) ≡ true ↔ Explained controllers (a ∷ accepted_of h)
    exactly = (accepted_explained h u a v, explained_accepted h u a v)

    refused_as : (r : Outcome Parts) → StepView (after h) a.index a.content r → r ≡ refused 12 [] ↔ ((a.index ≤ last_index) × (length a.content ≤ part_length) × (is_accepted r ≡ false))
    refused_as r (bad_index k) = ((λ e. let z : ◌≡◌ {A = ℕ} 7 12 = cc in absurd (omega arith)), λ (i, l, n). absurd (omega arith))
    refused_as r (too_long j k) = ((λ e. let z : ◌≡◌ {A = ℕ} 2 12 = cc in absurd (omega arith)), λ (i, l, n). absurd (omega arith))
    refused_as r (repeats j k nz q) = ((λ e. absurd (true_not_false refl (ap is_accepted e))), λ (i, l, n). absurd (true_not_false refl n))
    refused_as r (differs j k nz q) = ((λ e. (omega arith, k, refl)), λ (i, l, n). refl)
    refused_as r (joins j k z q) = ((λ e. absurd (true_not_false refl (ap is_accepted e))), λ (i, l, n). absurd (true_not_false refl n))
    refused_as r (clashes j k z q) = ((λ e. (omega arith, k, refl)), λ (i, l, n). refl)

    -- 12: "no list of at most 1,024 bytes explains this answer and those accepted", and its index and length are legal
    pub twelve_exactly : taking (after h) a.index a.content ≡ refused 12 [] ↔ ((a.index ≤ last_index) × (length a.content ≤ part_length) × (Explained controllers (a ∷ accepted_of h) → ⊥))
    twelve_exactly =
        let (to, from) = refused_as (taking (after h) a.index a.content) (view (after h) a.index a.content (history h u).wf) in
        let (none, unexplained) = not_exactly _ exactly in
        ((λ e. let (i, l, n) = to e in (i, l, none n)), λ (i, l, n). from (i, l, unexplained n))

-- Of one controller's answers.
module _ (list : List ℕ) (s : IsList list) where
  legal : (i : ℕ) (d : List ℕ) → controllers.Answers list i d → Bytes d × (i ≤ last_index) × (length d ≤ part_length)
  legal i d (il, q) = (subst Bytes q (bytes_take 16 (drop (16 * i) list) (bytes_drop (16 * i) list s.bytes)), il, omega (arith, ap length q, answer_length list i))

  module _ (h : List Call) (e : Explains controllers list h) where
    u : AllBytes h
    u = explained_bytes collecting controllers list s legal (λ g w a v il l x. explained_accepted g w a v x) h e

    all : accepted_of h ≡ h
    all = none_refused collecting controllers list s legal (λ g w a v il l x. explained_accepted g w a v x) h e

    tells : TellsOf list (after h)
    tells = (history h u).from list s.size (subst (Explains controllers list) (sym all) e)

    complete_all : is_complete (after h) ≡ true → AllHeard controllers list h
    complete_all c i il = subst (HeardIn i) all ((known h u).heard i (complete_heard (after h) list tells c i il))

    whole : AllHeard controllers list h → (standing_of (after h) ≡ accepted (Complete (length list))) × (list_of (after h) ≡ accepted list)
    whole y =
        let c : is_complete (after h) ≡ true = heard_complete (after h) list tells (λ i il. ((known h u).marked i (subst (HeardIn i) (sym all) (y i il))).1) in (
          standing_complete (after h) (history h u).wf c ∙ ap (λ (x : ℕ). accepted (Complete x)) (complete_low (after h) list tells c),
          list_complete (after h) (history h u).wf c ∙ ap accepted (complete_bytes (after h) list tells (history h u).typed c),
        )

    lowest_unheard : (AllHeard controllers list h → ⊥) → (i : ℕ) × (standing_of (after h) ≡ accepted (Missing i)) × (HeardIn i h → ⊥) × ((j : ℕ) → j < i → HeardIn j h)
    lowest_unheard n =
        ⊎_elim (λ (c : is_complete (after h) ≡ true). absurd (n (complete_all c)))
        (λ (f : is_complete (after h) ≡ false).
        let q = standing_missing (after h) (history h u).wf f in
        let (un, under, small) = lowest_named h u (lowest (after h).marks 64) q in
        (lowest (after h).marks 64, q, (λ y. un (subst (HeardIn _) (sym all) y)), λ j jl. subst (HeardIn j) all (under j jl)))
        (bool_cases (is_complete (after h)))

pub demand_3 : Demand3 collecting controllers
demand_3 =
    record {
      answers = λ list s i il. (answer_of list i, (il, refl), omega (arith, answer_length list i));
      none_refused = all;
      complete_exactly = λ list s h e. ((λ (n, q). complete_all list s h e (complete_or (after h) n (history h (u list s h e)).wf q)), λ y. (length list, (whole list s h e y).0));
      its_list = whole;
      names_lowest = lowest_unheard;
      asking_ends = λ list s. asking_ends collecting controllers list (whole list s) (lowest_unheard list s);
      refused_exactly = λ h w a v il l. not_exactly _ (exactly h w a v);
      accepted_exactly = λ h w a v il l. exactly h w a v;
    }

-- The test of the parts passes exactly for what calls make from fresh ones.
module _ (c : Parts) (t : Typed c) where
  pub well_formed_exactly : well_formed c ≡ true ↔ Reachable c
  well_formed_exactly = (wf_reachable c t, reachable_wf c)

  unreachable : (Reachable c → ⊥) → well_formed c ≡ false
  unreachable = (not_exactly (well_formed c) well_formed_exactly).1

  -- so each definition gives 9 exactly to parts that no calls make
  pub answer_refuses_9 : (i : ℕ) (d : List ℕ) → taking c i d ≡ refused 9 [] ↔ (Reachable c → ⊥)
  answer_refuses_9 i d = ((λ e r. never (taking c i d) (view c i d (reachable_wf c r)) e), λ n. taking_9 c i d (unreachable n))
    where
      never : (r : Outcome Parts) → StepView c i d r → r ≡ refused 9 [] → ⊥
      never r (bad_index k) e = let z : ◌≡◌ {A = ℕ} 7 9 = cc in omega arith
      never r (too_long j k) e = let z : ◌≡◌ {A = ℕ} 2 9 = cc in omega arith
      never r (repeats j k nz q) e = true_not_false refl (ap is_accepted e)
      never r (differs j k nz q) e = let z : ◌≡◌ {A = ℕ} 12 9 = cc in omega arith
      never r (joins j k z q) e = true_not_false refl (ap is_accepted e)
      never r (clashes j k z q) e = let z : ◌≡◌ {A = ℕ} 12 9 = cc in omega arith

  pub status_refuses_9 : standing_of c ≡ refused 9 [] ↔ (Reachable c → ⊥)
  status_refuses_9 = ((λ e r. true_not_false refl (ap is_accepted (rw (reachable_wf c r) at e))), λ n. standing_9 c (unreachable n))

  pub list_refuses_9 : list_of c ≡ refused 9 [] ↔ (Reachable c → ⊥)
  list_refuses_9 = ((λ e r. go r (bool_cases (is_complete c)) e), λ n. list_9 c (unreachable n))
    where
      go : Reachable c → (is_complete c ≡ true) ⊎ (is_complete c ≡ false) → list_of c ≡ refused 9 [] → ⊥
      go r (inl y) e = true_not_false (ap is_accepted (list_complete c (reachable_wf c r) y)) (ap is_accepted e)
      go r (inr n) e = let z : ◌≡◌ {A = ℕ} 13 9 = cc (list_missing c (reachable_wf c r) n) in omega arith

-- what calls make is of the machine
pub reachable_typed : (c : Parts) → Reachable c → Typed c
reachable_typed c r = subst Typed r.made (history r.calls r.bytes).typed
