use Rattle.base.proofs.field.Laws.{past, all}
use Rattle.base.proofs.field.bits.Goals as goal

pub returns-then-at-gt7 : goal.returns-then-at-gt7
returns-then-at-gt7 c = past c.args.at c.args.width c.args.byte c.ranges.byte.fits c.if-at-gt7.true

pub returns-then-width-gt7 : goal.returns-then-width-gt7
returns-then-width-gt7 c = all c.args.at c.args.width c.args.byte c.ranges.byte.fits c.if-width-gt7.true
