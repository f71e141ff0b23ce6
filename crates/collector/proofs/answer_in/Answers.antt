use Rattle.std.proofs.lemmas.Result.{err_from_is_err_and}
use Rattle.base.specs.declared.refusal.Refusal.TheVariants.{NoForm}
use Rattle.base.proofs.Verdict.{refusing}
use Rattle.collector.specs.Stored.{collector_of}
use Rattle.collector.proofs.Stored.{untested}
use Rattle.collector.proofs.answer_in.Goals as goal

pub returns-in_err-new : goal.returns-in_err-new
returns-in_err-new c =
    let a = c.args in
    let k = collector_of a.bytes.now a.marks.now a.known.now in
    let p = err_from_is_err_and c.from_residual.result c.from_residual.ensures.1 in
    rw (p.1, p.2, c.in_err-new.ensures.0) (refusing k NoForm (untested k a.index a.response.now c.in_err-new.ensures.1))
