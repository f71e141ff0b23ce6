use Rattle.collector.specs.Shape.{HeardBelow}
use Rattle.collector.proofs.known.unheard_from.Given as goal

abbrev pub invariant-loop-i : goal.invariant-loop-i
invariant-loop-i l = HeardBelow l.marks l.i
