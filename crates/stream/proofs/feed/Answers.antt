use Rattle.stream.proofs.Laws.{went_none, went_on, went_far}
use Rattle.stream.proofs.feed.Goals as goal

pub loop-next-init : goal.loop-next-init
loop-next-init c = went_none c.args.collector.now c.args.block.now c.args.out.now

pub loop-next-preserved : goal.loop-next-preserved
loop-next-preserved c = went_on c.loop-next.invariant c.in-Some.ensures.0

pub returns : goal.returns
returns c = went_far c.loop-next.invariant c.in_default.ensures
