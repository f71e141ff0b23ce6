use Prim.Native.Nat.{◌≤◌}
use Rattle.replay.proofs.main.Given as goal

-- no more of a line is held than is kept of one
abbrev pub invariant-loop : goal.invariant-loop
invariant-loop l = l.used ≤ 4096
