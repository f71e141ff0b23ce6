use mathlib.Core.Path.{◌≡◌}
use Rattle.std.proofs.Common.{Err, rules}
use Rattle.by_suite.specs.ChannelCollector.{lent_as}
use Rattle.by_suite.proofs.channel_collector.Laws.{refused_behind, taken_as, refused_as, rest_is}
use Rattle.by_suite.proofs.channel_collector.answer_from.Goals as goal

pub returns-in_err-answer_in-in-Ok : goal.returns-in_err-answer_in-in-Ok
returns-in_err-answer_in-in-Ok c =
    let a = c.args in
    let r = c.in_err-answer_in-in-Ok.field-0.0 in
    let e : c.from_residual.result ≡ Err r = search rules in
    rw e (refused_as (lent_as a.channel a.from.now a.bytes.now a.marks.now a.known.now) a.index a.response.now c.in-Ok.number c.in-Ok.ensures (rest_is a.response.now) r c.in_err-answer_in-in-Ok.ensures)

pub returns-in_ok-answer_in-in-Ok : goal.returns-in_ok-answer_in-in-Ok
returns-in_ok-answer_in-in-Ok c =
    let a = c.args in
    taken_as (lent_as a.channel a.from.now a.bytes.now a.marks.now a.known.now) a.index a.response.now c.in-Ok.number c.in-Ok.ensures (rest_is a.response.now) c.in_ok-answer_in-in-Ok.ensures

pub returns-in-Err : goal.returns-in-Err
returns-in-Err c =
    let a = c.args in
    refused_behind (lent_as a.channel a.from.now a.bytes.now a.marks.now a.known.now) a.index a.response.now c.in-Err.refusal c.behind_test.result c.in-Err.ensures c.behind_test.ensures
