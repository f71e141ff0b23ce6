use native.Mathlib.Omega.{arith}
use Rattle.chandump.proofs.Laws.{answered}
use Rattle.chandump.proofs.some.Goals as goal

pub returns : goal.returns
returns c = answered c.args.block.now c.args.out.now c.feed-fed.ensures c.in_ok-put.put c.in_ok-put.ensures c.typed.ensures (omega arith)
