use mathlib.Core.Path.{ap, ◌∙◌}
use Rattle.base.specs.Outcome.{is_accepted}
use Rattle.by_suite.specs.GetChannelCipherSuites.{is_channel}
use Rattle.by_suite.proofs.channel_collector.Laws.{is_made}
use Rattle.by_suite.proofs.channel_collector.is_channel.Goals as goal

pub returns : goal.returns
unfolding is_channel
returns c = c.is_ok.ensures.value ∙ is_made c.new.result ∙ ap is_accepted c.new.ensures
