use native.Mathlib.Omega.{arith}
use lib.ListN.{length-set}
use Rattle.base.proofs.written.Laws.{lacking, fitting, stored, whole}
use Rattle.base.proofs.written.place.Goals as goal

pub returns-then-out-message : goal.returns-then-out-message
returns-then-out-message c = lacking c.args.message.now c.args.out.now (omega arith)

pub loop-i-preserved : goal.loop-i-preserved
loop-i-preserved c =
    let l = c.loop-i.invariant in
    let a = c.args in
    (simp length-set l.0, stored a.out.now a.message.now c.loop-i.out c.loop-i.i l.1 (omega arith) (omega arith))

pub returns : goal.returns
returns c =
    let a = c.args in
    rw (whole a.out.now a.message.now c.loop-i.out c.loop-i.i c.loop-i.invariant.1 (omega arith)) (fitting a.message.now a.out.now (omega arith))
