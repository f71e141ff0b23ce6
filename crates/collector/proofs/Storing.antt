-- The collector follows its parts, so it keeps demand 3 with them, and no answer of document 01 changes; what calls make of a fresh one.
use Prim.Native.Nat.{ℕ}
use mathlib.Core.Bool.{true, false}
use mathlib.Core.List.{List, [], ◌∷◌}
use mathlib.Core.Logic.{◌↔◌, ⊎_elim}
use mathlib.Core.Path.{◌≡◌, refl, sym, ap, ◌∙◌, subst}
use native.Mathlib.Omega.{arith}
use lib.ListN.{length}
use mir.Val.{bool_byte}
use borrow.Author.Tests.{eq-eqb}
use Rattle.base.specs.Outcome.{Outcome, accepted, refused, ◌>>=◌}
use Rattle.base.specs.Verdict.{verdict_of}
use Rattle.base.proofs.little.Laws.{zero_at}
use Rattle.collector.specs.Collector.{fresh, lowest, complete_by, well_formed, taking, standing_of, list_of}
use Rattle.collector.specs.Demand.{Call, Demand3, controllers, collecting}
use Rattle.collector.specs.Histories.{Reachable, Typed, after}
use Rattle.collector.specs.Parts.{Parts}
use Rattle.collector.specs.Stored.{known_length, found, collector_of, parts_of, knowing, fresh_stored, knows, well_stored, tested, taking_stored, standing_stored, list_stored, storing, after_stored, ReachableStored}
use Rattle.collector.specs.declared.Collector.{Collector}
use Rattle.collector.proofs.Basic.{bool_cases}
use Rattle.collector.proofs.Complete.{lowest_is}
use Rattle.collector.proofs.Demand.{demand_3, answer_refuses_9, status_refuses_9, list_refuses_9, reachable_typed}
use Rattle.collector.proofs.Entries.{taking_9, standing_9, list_9}
use Rattle.collector.proofs.Keeping.{Follows, not_exactly, made_follows, carried}
use Rattle.collector.proofs.Reach.{wf_reachable, reachable_wf}
use Rattle.collector.proofs.Stored.{parts_formed, knowing_is}

-- what a search finds passes the test

knows_found : (c : Parts) → knows (knowing c) ≡ true
unfolding knows
knows_found c = rw (eq-eqb (lowest c.marks 64) (lowest c.marks 64) refl) (eq-eqb (bool_byte (complete_by c.marks)) (bool_byte (complete_by c.marks)) refl)

tests_parts : {A : Type 0} (c : Parts) (o : Outcome A) → (well_formed c ≡ false → o ≡ refused 9 []) → tested (knowing c) o ≡ o
tests_parts c o n = ⊎_elim (λ (e : well_formed c ≡ true). rw (e, knows_found c)) (λ (e : well_formed c ≡ false). rw e (sym (n e))) (bool_cases (well_formed c))

found_zero : (ms : List ℕ) → lowest ms 64 ≡ 0 → found ms ≡ 0 ∷ 0 ∷ []
found_zero ms e = rw e

fresh_knows : fresh_stored ≡ knowing fresh
fresh_knows = ap (collector_of fresh.bytes fresh.marks) (sym (found_zero fresh.marks (lowest_is fresh.marks 64 0 (omega arith) (λ i il. absurd (omega arith)) (λ z. zero_at 64 0))))

pub follows : Follows collecting storing knowing
unfolding taking_stored
follows =
    record {
      fresh = fresh_knows;
      taking = λ c i d. tests_parts c (taking c i d >>= (λ t. accepted (knowing t))) (λ e. rw (taking_9 c i d e));
      standing = λ c. tests_parts c (standing_of c) (standing_9 c);
      list = λ c. tests_parts c (list_of c) (list_9 c);
    }

pub demand_3_stored : Demand3 storing controllers
demand_3_stored = carried collecting storing knowing follows controllers demand_3

-- Of any history.
module _ (h : List Call) where
  pub made_knowing : after_stored h ≡ knowing (after h)
  made_knowing = made_follows collecting storing knowing follows h

  -- "keep both equal to what a search would find"
  pub stored : (after_stored h).known ≡ found (after_stored h).marks
  stored = rw made_knowing

  -- "No answer of document 01 changes."

  same_verdict : (o : Outcome Parts) → verdict_of (o >>= (λ t. accepted (knowing t))) ≡ verdict_of o
  same_verdict (accepted t) = refl
  same_verdict (refused n v) = refl

  pub answer_same : (i : ℕ) (d : List ℕ) → verdict_of (taking_stored (after_stored h) i d) ≡ verdict_of (taking (after h) i d)
  answer_same i d = rw (made_knowing, follows.taking (after h) i d) (same_verdict (taking (after h) i d))

  pub standing_same : standing_stored (after_stored h) ≡ standing_of (after h)
  standing_same = rw made_knowing (follows.standing (after h))

  pub list_same : list_stored (after_stored h) ≡ list_of (after h)
  list_same = rw made_knowing (follows.list (after h))

-- The test that the code runs passes exactly for what calls make from a fresh one.
module _ (k : Collector) (t : Typed (parts_of k)) (n : length k.known ≡ known_length) where
  pub well_stored_exactly : well_stored k ≡ true ↔ ReachableStored k
  well_stored_exactly = (
    (λ w. let r : Reachable (parts_of k) = wf_reachable (parts_of k) t (parts_formed k w) in
        record { calls = r.calls; bytes = r.bytes; made = made_knowing r.calls ∙ ap knowing r.made ∙ knowing_is k w n }),
    λ r. subst (λ (x : Collector). well_stored x ≡ true) (sym (made_knowing r.calls) ∙ r.made)
        (rw (reachable_wf (after r.calls) (record { calls = r.calls; bytes = r.bytes; made = refl })) (knows_found (after r.calls))),
  )

  nine : {A : Type 0} (o : Outcome A) → (o ≡ refused 9 [] → Reachable (parts_of k) → ⊥) → tested k o ≡ refused 9 [] ↔ (ReachableStored k → ⊥)
  nine o never = (
    (λ e r. let w = well_stored_exactly.1 r in never (rw w at e) (wf_reachable (parts_of k) t (parts_formed k w))),
    λ none. let w : well_stored k ≡ false = (not_exactly (well_stored k) well_stored_exactly).1 none in rw w,
  )

  refused_parts : (o : Outcome Parts) → (o >>= (λ c. accepted (knowing c))) ≡ refused 9 [] → o ≡ refused 9 []
  refused_parts (accepted c) e = let z : ◌≡◌ {A = ℕ} 0 1 = cc in absurd (omega arith)
  refused_parts (refused m v) e = let p : m ≡ 9 = cc in let q : v ≡ [] = cc in rw (p, q)

  -- so each entry gives 9 exactly to "a collector that no calls make from a fresh one"
  pub answer_stored_9 : (i : ℕ) (d : List ℕ) → taking_stored k i d ≡ refused 9 [] ↔ (ReachableStored k → ⊥)
  unfolding taking_stored
  answer_stored_9 i d = nine (taking (parts_of k) i d >>= (λ c. accepted (knowing c))) (λ e. (answer_refuses_9 (parts_of k) t i d).0 (refused_parts (taking (parts_of k) i d) e))

  pub status_stored_9 : standing_stored k ≡ refused 9 [] ↔ (ReachableStored k → ⊥)
  status_stored_9 = nine (standing_of (parts_of k)) (status_refuses_9 (parts_of k) t).0

  pub list_stored_9 : list_stored k ≡ refused 9 [] ↔ (ReachableStored k → ⊥)
  list_stored_9 = nine (list_of (parts_of k)) (list_refuses_9 (parts_of k) t).0

-- what calls make is of the machine
pub reachable_stored_typed : (k : Collector) → ReachableStored k → Typed (parts_of k) × (length k.known ≡ known_length)
reachable_stored_typed k r =
    let e : knowing (after r.calls) ≡ k = sym (made_knowing r.calls) ∙ r.made in
    subst (λ (x : Collector). Typed (parts_of x) × (length x.known ≡ known_length)) e (reachable_typed (after r.calls) (record { calls = r.calls; bytes = r.bytes; made = refl }), refl)
