use mathlib.Core.Path.{◌∙◌}
use Rattle.collector.proofs.shape.Laws.{hole_is}
use Rattle.collector.proofs.shape.hole.Goals as goal

pub returns-then-mark-eq0 : goal.returns-then-mark-eq0
returns-then-mark-eq0 c = c.most.ensures ∙ hole_is c.args.bytes.now c.args.i c.args.mark c.told-bytes c.requires c.if-mark-eq0.true
