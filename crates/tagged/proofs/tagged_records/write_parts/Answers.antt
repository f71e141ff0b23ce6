use native.Mathlib.Omega.{arith}
use Rattle.tagged.proofs.tagged_records.Writing.{parts_fitting, parts_lacking}
use Rattle.tagged.proofs.tagged_records.write_parts.Goals as goal

pub returns-then-out-head : goal.returns-then-out-head
returns-then-out-head c =
    let a = c.args in
    parts_lacking a.head.now a.integrity.now a.confidentiality.now a.out.now (omega arith)

pub returns-then-out-head-2 : goal.returns-then-out-head-2
returns-then-out-head-2 c =
    let a = c.args in
    parts_lacking a.head.now a.integrity.now a.confidentiality.now a.out.now (omega arith)

pub returns-then-out-at : goal.returns-then-out-at
returns-then-out-at c =
    let a = c.args in
    parts_lacking a.head.now a.integrity.now a.confidentiality.now a.out.now (omega arith)

pub returns : goal.returns
returns c =
    let a = c.args in
    rw (c.copy_from_slice.ensures.after, c.put_tagged.ensures, c.put_tagged-2.ensures) (parts_fitting a.head.now a.integrity.now a.confidentiality.now a.out.now (omega arith))
