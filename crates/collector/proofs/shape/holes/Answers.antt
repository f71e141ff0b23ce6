use native.Mathlib.Omega.{arith}
use mathlib.Core.Path.{sym}
use Rattle.collector.proofs.shape.Laws.{larger, holes_next, holes_none}
use Rattle.collector.proofs.shape.holes.Goals as goal

pub loop-i-init : goal.loop-i-init
loop-i-init c = (omega arith, holes_none c.args.bytes.now c.args.marks.now c.args.from)

pub loop-i-preserved : goal.loop-i-preserved
loop-i-preserved c = (omega arith, rw (c.max-most.ensures, larger, c.hole.ensures, c.loop-i.invariant.1) (sym (holes_next c.args.bytes.now c.args.marks.now c.args.from c.loop-i.i (omega arith))))
