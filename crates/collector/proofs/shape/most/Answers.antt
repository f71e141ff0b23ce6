use mathlib.Core.Path.{refl}
use native.Mathlib.Nat.{zero-add}
use Rattle.collector.specs.Shape.{most, max_to}
use Rattle.collector.proofs.shape.Laws.{larger, bytes_next}
use Rattle.collector.proofs.shape.most.Goals as goal

pub loop-byte-init : goal.loop-byte-init
unfolding most max_to
loop-byte-init c = refl

pub loop-byte-preserved : goal.loop-byte-preserved
loop-byte-preserved c = rw (c.max-most.ensures, larger, bytes_next, zero-add c.loop-byte.byte-index, c.loop-byte.invariant)
