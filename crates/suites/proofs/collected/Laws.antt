-- The suites of a collector.
use mathlib.Core.List.{List, []}
use mathlib.Core.Logic.{◌↔◌}
use mathlib.Core.Path.{◌≡◌, sym, ap}
use Prim.Native.Nat.{ℕ}
use lib.ListN.{length}
use Rattle.base.specs.Outcome.{Outcome, accepted, refused, ◌>>=◌}
use Rattle.base.proofs.Outcome.{apart}
use Rattle.collector.specs.Stored.{ReachableStored, after_stored, known_length, list_stored, parts_of}
use Rattle.collector.specs.Demand.{AllHeard, Call, Explains, IsList, controllers}
use Rattle.collector.specs.Histories.{Typed}
use Rattle.collector.specs.declared.Collector.{Collector}
use Rattle.collector.proofs.Storing.{demand_3_stored, list_stored_9}
use Rattle.suites.specs.Collected.{suites_of}
use Rattle.suites.specs.GetChannelCipherSuites.{numbers_of}

-- Where the 3 comes from: a controller's answers, every index heard that its list needs, and the suites shown are those of its list.
pub suites_are_the_lists : (list : List ℕ) → IsList list → (h : List Call) → Explains controllers list h → AllHeard controllers list h → suites_of (after_stored h) ≡ accepted (numbers_of list)
suites_are_the_lists list s h e all = rw (demand_3_stored.its_list list s h e all).1

-- 9 exactly for "a collector that no calls make from a fresh one"
pub suites_refuse_9 : (k : Collector) → Typed (parts_of k) → length k.known ≡ known_length → suites_of k ≡ refused 9 [] ↔ (ReachableStored k → ⊥)
suites_refuse_9 k t n = ((λ e. (list_stored_9 k t n).0 (back (list_stored k) e)), λ none. ap (λ (o : Outcome (List ℕ)). o >>= λ list. accepted (numbers_of list)) ((list_stored_9 k t n).1 none))
  where
    back : (o : Outcome (List ℕ)) → (o >>= λ list. accepted (numbers_of list)) ≡ refused 9 [] → o ≡ refused 9 []
    back (accepted list) e = absurd (apart (sym e))
    back (refused n v) e = cc
