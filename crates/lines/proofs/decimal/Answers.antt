use Rattle.lines.proofs.Laws.{as_library, one_counted, two_counted}
use Rattle.lines.proofs.decimal.Goals as goal

pub returns-then-n-lt10 : goal.returns-then-n-lt10
returns-then-n-lt10 c = rw (one_counted c.args.n c.if-n-lt10.true) c.place.ensures

pub returns-then-n-lt100 : goal.returns-then-n-lt100
returns-then-n-lt100 c = rw (two_counted c.args.n c.if-n-lt10.false c.if-n-lt100.true) c.place-then-n-lt100.ensures

pub returns : goal.returns
returns c = rw (as_library c.args.n c.ranges.n.fits, ← c.format.ensures.text, ← c.as_bytes.ensures.value) c.place-2.ensures
