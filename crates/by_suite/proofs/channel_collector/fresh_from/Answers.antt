use borrow.Author.Tests.{ne_eqb}
use native.Mathlib.Numerals.{add-one}
use Rattle.by_suite.specs.ChannelCollector.{current}
use Rattle.by_suite.specs.GetChannelCipherSuites.{is_channel}
use Rattle.by_suite.proofs.channel_collector.fresh_from.Goals as goal

pub returns-then-channel-eq-CURRENT : goal.returns-then-channel-eq-CURRENT
unfolding is_channel
returns-then-channel-eq-CURRENT c = rw c.if-channel-eq-CURRENT.true

pub returns-in_default : goal.returns-in_default
unfolding is_channel
returns-in_default c = rw (← c.in_default.ensures)

pub returns : goal.returns
unfolding is_channel
returns c =
    rw (← c.in-Ok.ensures, ne_eqb c.args.channel current c.if-channel-eq-CURRENT.false, add-one)
