use mathlib.Core.Path.{◌≡◌}
use Rattle.collector.specs.Shape.{most}
use Rattle.collector.proofs.shape.most.Given as goal

abbrev pub invariant-loop-byte : goal.invariant-loop-byte
invariant-loop-byte l = l.most ≡ most l.bytes 0 l.byte-index
