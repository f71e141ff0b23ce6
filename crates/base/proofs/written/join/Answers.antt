use mathlib.Core.List.{◌++◌}
use native.Mathlib.Omega.{arith}
use lib.ListN.{length-append}
use Rattle.base.proofs.written.Laws.{lacking, fitting, joined}
use Rattle.base.proofs.written.join.Goals as goal

pub returns-then-out-at : goal.returns-then-out-at
returns-then-out-at c = lacking (c.args.first.now ++ c.args.second.now) c.args.out.now (rw length-append (omega arith))

pub returns-then-out-at-2 : goal.returns-then-out-at-2
returns-then-out-at-2 c = lacking (c.args.first.now ++ c.args.second.now) c.args.out.now (rw length-append (omega arith))

pub returns : goal.returns
returns c =
    let a = c.args in
    rw
    (c.copy_from_slice.ensures.after, c.copy_from_slice-2.ensures.after, joined a.first.now a.second.now a.out.now, ← length-append a.first.now a.second.now)
    (fitting (a.first.now ++ a.second.now) a.out.now (rw length-append (omega arith)))
