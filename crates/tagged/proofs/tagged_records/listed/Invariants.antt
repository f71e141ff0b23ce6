use Prim.Native.Nat.{◌-◌}
use lib.ListN.{length}
use Rattle.tagged.proofs.tagged_records.Listing.{Turn}
use Rattle.tagged.proofs.tagged_records.listed.Given as goal

abbrev pub invariant-loop-from : goal.invariant-loop-from
invariant-loop-from g l = Turn l.list g.row.WIDTH l.initial.out l.out l.from l.length

abbrev pub decreases-loop-from : goal.decreases-loop-from
decreases-loop-from g l = length l.list - l.from
