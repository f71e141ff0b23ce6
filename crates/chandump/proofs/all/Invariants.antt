use Prim.Native.Nat.{◌-◌}
use lib.ListN.{length}
use Rattle.chandump.proofs.Laws.{Stands}
use Rattle.chandump.proofs.all.Given as goal

abbrev pub invariant-loop-fed : goal.invariant-loop-fed
invariant-loop-fed l = Stands l.block l.at l.collector

abbrev pub decreases-loop-fed : goal.decreases-loop-fed
decreases-loop-fed l = length l.block - l.at
