use native.Mathlib.Omega.{arith}
use Rattle.by_suite.proofs.channel_collector.Laws.{zeros_next, zeros_done}
use Rattle.by_suite.proofs.channel_collector.silent.Goals as goal

pub loop-mark-preserved : goal.loop-mark-preserved
loop-mark-preserved c =
    zeros_next c.args.marks.now c.loop-mark.mark-index c.loop-mark.most c.max-most.result (omega arith) c.max-most.ensures c.loop-mark.invariant

pub returns : goal.returns
returns c =
    zeros_done c.args.marks.now c.loop-mark.mark-index c.loop-mark.most (omega arith) c.loop-mark.invariant
