use native.Mathlib.Omega.{arith}
use lib.ListN.{length-set}
use Rattle.tagged.proofs.tagged_records.Writing.{tag_stored}
use Rattle.tagged.proofs.tagged_records.put_tagged.Goals as goal

pub loop-i-preserved : goal.loop-i-preserved
loop-i-preserved c =
    let l = c.loop-i.invariant in
    let a = c.args in
    (simp length-set l.0, tag_stored a.tag a.out.now a.bytes.now c.loop-i.out c.loop-i.i l.1 (omega arith) (omega arith))
