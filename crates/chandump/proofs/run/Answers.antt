use Rattle.chandump.proofs.Laws.{ready_first}
use Rattle.chandump.proofs.run.Goals as goal

pub loop-init : goal.loop-init
loop-init c = ready_first c.requires.0 c.in_ok-begun.ensures c.requires.1
