use Prim.Native.Nat.{◌≤◌}
use lib.ListN.{length}
use Rattle.replay.proofs.fed.Given as goal

abbrev pub invariant-loop : goal.invariant-loop
invariant-loop l = l.at ≤ length l.block
