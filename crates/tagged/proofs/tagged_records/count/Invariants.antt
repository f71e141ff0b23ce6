use mathlib.Core.Path.{◌≡◌}
use Prim.Native.Nat.{◌-◌, ◌≤◌}
use lib.ListN.{length}
use Rattle.tagged.specs.TaggedRecords.{count_of}
use Rattle.tagged.proofs.tagged_records.Steps.{counted}
use Rattle.tagged.proofs.tagged_records.count.Given as goal

abbrev pub invariant-loop-at : goal.invariant-loop-at
invariant-loop-at l = (l.n ≤ l.at) × (count_of l.list ≡ counted l.list l.n l.at)

abbrev pub decreases-loop-at : goal.decreases-loop-at
decreases-loop-at l = length l.list - l.at
