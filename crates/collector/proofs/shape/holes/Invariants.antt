use Prim.Native.Nat.{◌≤◌, ◌-◌, max}
use mathlib.Core.Path.{◌≡◌}
use Rattle.collector.specs.Shape.{holes}
use Rattle.collector.proofs.shape.holes.Given as goal

abbrev pub invariant-loop-i : goal.invariant-loop-i
invariant-loop-i l = (l.i ≤ max l.from l.to) × (l.most ≡ holes l.bytes l.marks l.from (l.i - l.from))
