use Rattle.chandump.proofs.Laws.{kept_ready}
use Rattle.chandump.proofs.answer.Goals as goal

pub returns : goal.returns
returns c = kept_ready c.args.block.now c.in_ok-at.at c.args.end c.in_ok-at.ensures c.kept.ensures c.requires.1.1
