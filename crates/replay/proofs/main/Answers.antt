use native.Mathlib.Omega.{arith}
use lib.ListN.{length-take}
use Rattle.replay.proofs.main.Goals as goal

pub loop-preserved : goal.loop-preserved
loop-preserved c = rw (c.kept-used.ensures.count, length-take) (omega arith)
