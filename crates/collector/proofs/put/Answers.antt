use native.Mathlib.Omega.{arith}
use native.Mathlib.Numerals.{add-one}
use lib.Seq.{paste-suc}
use Rattle.collector.proofs.put.Goals as goal

pub loop-i-preserved : goal.loop-i-preserved
loop-i-preserved c =
    let a = c.args in
    rw (add-one, c.loop-i.invariant) (paste-suc a.bytes.now a.at a.part.now c.loop-i.i 0 (omega arith) (omega arith))
