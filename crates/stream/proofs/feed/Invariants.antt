use Prim.Native.Nat.{◌-◌}
use lib.ListN.{length}
use Rattle.stream.specs.Steps.{Went}
use Rattle.stream.proofs.feed.Given as goal

abbrev pub invariant-loop-next : goal.invariant-loop-next
invariant-loop-next l = Went l.initial.collector l.block l.fed l.initial.out l.out l.collector

abbrev pub decreases-loop-next : goal.decreases-loop-next
decreases-loop-next l = length l.block - l.fed.taken
