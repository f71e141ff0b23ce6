use mathlib.Core.Path.{sym, ap, ◌∙◌}
use Rattle.base.specs.Refusal.{said}
use Rattle.base.specs.declared.refusal.Refusal.TheVariants.{Incomplete}
use Rattle.base.proofs.written.Laws.{refusing}
use Rattle.std.specs.Prelude.{Ok}
use Rattle.std.proofs.lemmas.Result.{err_from_is_err_and}
use Rattle.collector.specs.Stored.{collector_of}
use Rattle.collector.proofs.Stored.{told_within, unlisted, unformed}
use Rattle.collector.proofs.list_in.Goals as goal

pub returns-in_err-length : goal.returns-in_err-length
returns-in_err-length c =
    let a = c.args in
    let p = err_from_is_err_and c.from_residual.result c.from_residual.ensures.1 in rw (p.1, p.2) (refusing c.in_err-length.field-0.0 a.out.now (unformed (collector_of a.bytes.now a.marks.now a.known.now) c.in_err-length.field-0.0 (sym c.in_err-length.ensures)))

pub shared_ref_as_front-place : goal.shared_ref_as_front-place
shared_ref_as_front-place c =
    let a = c.args in
    told_within (collector_of a.bytes.now a.marks.now a.known.now) c.in-Complete.length (sym c.in_ok-length.ensures ∙ ap (λ s. said (Ok s)) c.in-Complete.is)

pub returns-in-Missing : goal.returns-in-Missing
returns-in-Missing c =
    let a = c.args in
    refusing (Incomplete c.in-Missing.index) a.out.now (unlisted (collector_of a.bytes.now a.marks.now a.known.now) c.in-Missing.index (sym c.in_ok-length.ensures ∙ ap (λ s. said (Ok s)) c.in-Missing.is))
