use mathlib.Core.Path.{refl}
use Rattle.collector.specs.Shape.{max_to, top_to, gap_to, most_to, free_to}
use Rattle.collector.proofs.shape.Laws.{shape_next}
use Rattle.collector.proofs.shape.shape_of.Goals as goal

pub loop-i-init : goal.loop-i-init
unfolding max_to top_to gap_to most_to free_to
loop-i-init c = refl

pub loop-i-preserved : goal.loop-i-preserved
loop-i-preserved c = rw (c.shape_with-shape.ensures, c.loop-i.invariant) (shape_next c.args.marks.now c.loop-i.i)
