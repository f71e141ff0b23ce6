use mathlib.Core.Path.{sym, ◌∙◌}
use Rattle.base.specs.declared.refusal.Refusal.TheVariants.{NoForm}
use Rattle.base.proofs.written.Laws.{refusing}
use Rattle.by_suite.specs.ChannelCollector.{lent_as}
use Rattle.by_suite.proofs.channel_collector.Laws.{unfit}
use Rattle.by_suite.proofs.channel_collector.list_from.Goals as goal

pub returns : goal.returns
returns c =
    let a = c.args in
    refusing NoForm a.out.now (unfit (lent_as a.channel a.from a.bytes.now a.marks.now a.known.now) _ (sym c.from_fits.ensures ∙ c.if-from_fits.false))
