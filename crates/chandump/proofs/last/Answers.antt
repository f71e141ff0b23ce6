use native.Mathlib.Omega.{arith}
use Rattle.std.proofs.lemmas.Result.{IfOk-weaker}
use Rattle.chandump.proofs.Laws.{last_put, last_surely, wrote_within}
use Rattle.chandump.proofs.last.Goals as goal

pub unwrap-put-requires : goal.unwrap-put-requires
unwrap-put-requires c = last_surely c.args.rest.now c.finish.ensures c.typed.ensures (omega arith)

pub shared_ref_as_front-written : goal.shared_ref_as_front-written
shared_ref_as_front-written c = let w = wrote_within c.finish.ensures.writes c.unwrap-put.result c.unwrap-put.ensures in omega arith

pub returns : goal.returns
returns c = IfOk-weaker c.written.result _ _ (last_put c.args.rest.now c.finish.ensures c.unwrap-put.result c.requires.0 c.requires.1 c.unwrap-put.ensures) c.written.ensures
