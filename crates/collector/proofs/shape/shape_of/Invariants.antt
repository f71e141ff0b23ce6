use mathlib.Core.Path.{◌≡◌}
use Rattle.collector.specs.Shape.{shape_to}
use Rattle.collector.proofs.shape.shape_of.Given as goal

abbrev pub invariant-loop-i : goal.invariant-loop-i
invariant-loop-i l = l.shape ≡ shape_to l.marks l.i
