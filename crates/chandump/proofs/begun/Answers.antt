use native.Mathlib.Omega.{arith}
use Rattle.std.proofs.lemmas.Result.{IfOk-weaker}
use Rattle.chandump.proofs.Laws.{begun_put, begun_surely, wrote_within}
use Rattle.chandump.proofs.begun.Goals as goal

pub unwrap-heading-requires : goal.unwrap-heading-requires
unwrap-heading-requires c = begun_surely c.begin.ensures (omega arith)

pub shared_ref_as_front-written : goal.shared_ref_as_front-written
shared_ref_as_front-written c = let w = wrote_within c.begin.ensures c.unwrap-heading.result c.unwrap-heading.ensures in omega arith

pub returns : goal.returns
returns c = IfOk-weaker c.written.result _ _ (begun_put c.begin.ensures c.unwrap-heading.result c.unwrap-heading.ensures) c.written.ensures
