use mathlib.Core.Path.{◌≡◌, sym, ap, ◌∙◌}
use Rattle.std.proofs.Common.{Err, Ok, rules}
use Rattle.base.specs.Refusal.{said}
use Rattle.base.specs.declared.refusal.Refusal.TheVariants.{Incomplete}
use Rattle.base.proofs.written.Laws.{refusing}
use Rattle.collector.specs.Stored.{collector_of}
use Rattle.collector.proofs.Stored.{told_within, unlisted, unformed}
use Rattle.suites.proofs.collected.collected_suites_in.Goals as goal

pub returns-in_err-length : goal.returns-in_err-length
returns-in_err-length c =
    let a = c.args in
    let r = c.in_err-length.field-0.0 in
    let e : c.from_residual.result ≡ Err r = search rules in
    rw e (refusing r a.out.now (rw (unformed (collector_of a.bytes.now a.marks.now a.known.now) r (sym c.in_err-length.ensures))))

pub shared_ref_as_front-suite_numbers : goal.shared_ref_as_front-suite_numbers
shared_ref_as_front-suite_numbers c =
    let a = c.args in
    told_within (collector_of a.bytes.now a.marks.now a.known.now) c.in-Complete.length (sym c.in_ok-length.ensures ∙ ap (λ s. said (Ok s)) c.in-Complete.is)

pub returns-in-Missing : goal.returns-in-Missing
returns-in-Missing c =
    let a = c.args in
    refusing (Incomplete c.in-Missing.index) a.out.now (rw (unlisted (collector_of a.bytes.now a.marks.now a.known.now) c.in-Missing.index (sym c.in_ok-length.ensures ∙ ap (λ s. said (Ok s)) c.in-Missing.is)))
