-- Any two outcomes that a public function's promise allows at the same arguments coincide.
use mathlib.Core.Path.{refl}
use Rattle.base.proofs.Unique.{Unique, both, writer}
use Rattle.base.proofs.Said.{said_one}
use Rattle.base.proofs.Verdict.{beside}
use Rattle.by_suite.proofs as p

pub channel_suites_parse_unique : Unique p.get_channel_cipher_suites.ChannelSuites.parse.Kinds.ps p.get_channel_cipher_suites.ChannelSuites.parse.Kinds.r p.get_channel_cipher_suites.ChannelSuites.parse.Reads.Asked p.get_channel_cipher_suites.ChannelSuites.parse.Reads.Learnt
channel_suites_parse_unique κs a ok z z' w w' q q' = (said_one z z' (both q q'), refl)

pub channel_suites_write_unique : Unique p.get_channel_cipher_suites.ChannelSuites.write.Kinds.ps p.get_channel_cipher_suites.ChannelSuites.write.Kinds.r p.get_channel_cipher_suites.ChannelSuites.write.Reads.Asked p.get_channel_cipher_suites.ChannelSuites.write.Reads.Learnt
channel_suites_write_unique κs a ok z z' w w' q q' = writer 1 q q'

pub fresh_from_unique : Unique p.channel_collector.fresh_from.Kinds.ps p.channel_collector.fresh_from.Kinds.r p.channel_collector.fresh_from.Reads.Asked p.channel_collector.fresh_from.Reads.Learnt
fresh_from_unique κs a ok z z' w w' q q' = (said_one z z' (both q q'), refl)

pub answer_from_unique : Unique p.channel_collector.answer_from.Kinds.ps p.channel_collector.answer_from.Kinds.r p.channel_collector.answer_from.Reads.Asked p.channel_collector.answer_from.Reads.Learnt
answer_from_unique κs a ok z z' w w' q q' = (beside (λ verdict left. verdict) q q', beside (λ verdict left. (tt, (left.from, (left.collector.bytes, (left.collector.marks, (left.collector.known, (tt, (tt, tt)))))))) q q')

pub status_from_unique : Unique p.channel_collector.status_from.Kinds.ps p.channel_collector.status_from.Kinds.r p.channel_collector.status_from.Reads.Asked p.channel_collector.status_from.Reads.Learnt
status_from_unique κs a ok z z' w w' q q' = (said_one z z' (both q q'), refl)

pub list_from_unique : Unique p.channel_collector.list_from.Kinds.ps p.channel_collector.list_from.Kinds.r p.channel_collector.list_from.Reads.Asked p.channel_collector.list_from.Reads.Learnt
list_from_unique κs a ok z z' w w' q q' = writer 5 q q'

pub suites_from_unique : Unique p.channel_collector.suites_from.Kinds.ps p.channel_collector.suites_from.Kinds.r p.channel_collector.suites_from.Reads.Asked p.channel_collector.suites_from.Reads.Learnt
suites_from_unique κs a ok z z' w w' q q' = writer 5 q q'

pub channel_collector_made_for_unique : Unique p.channel_collector.ChannelCollector.made_for.Kinds.ps p.channel_collector.ChannelCollector.made_for.Kinds.r p.channel_collector.ChannelCollector.made_for.Reads.Asked p.channel_collector.ChannelCollector.made_for.Reads.Learnt
channel_collector_made_for_unique κs a ok z z' w w' q q' = (said_one z z' (both q q'), refl)

pub channel_collector_answer_unique : Unique p.channel_collector.ChannelCollector.answer.Kinds.ps p.channel_collector.ChannelCollector.answer.Kinds.r p.channel_collector.ChannelCollector.answer.Reads.Asked p.channel_collector.ChannelCollector.answer.Reads.Learnt
channel_collector_answer_unique κs a ok z z' w w' q q' = (beside (λ verdict collector. record { verdict = verdict; collector = collector }) q q', refl)

pub channel_collector_status_unique : Unique p.channel_collector.ChannelCollector.status.Kinds.ps p.channel_collector.ChannelCollector.status.Kinds.r p.channel_collector.ChannelCollector.status.Reads.Asked p.channel_collector.ChannelCollector.status.Reads.Learnt
channel_collector_status_unique κs a ok z z' w w' q q' = (said_one z z' (both q q'), refl)

pub channel_collector_list_unique : Unique p.channel_collector.ChannelCollector.list.Kinds.ps p.channel_collector.ChannelCollector.list.Kinds.r p.channel_collector.ChannelCollector.list.Reads.Asked p.channel_collector.ChannelCollector.list.Reads.Learnt
channel_collector_list_unique κs a ok z z' w w' q q' = writer 1 q q'

pub channel_collector_suites_unique : Unique p.channel_collector.ChannelCollector.suites.Kinds.ps p.channel_collector.ChannelCollector.suites.Kinds.r p.channel_collector.ChannelCollector.suites.Reads.Asked p.channel_collector.ChannelCollector.suites.Reads.Learnt
channel_collector_suites_unique κs a ok z z' w w' q q' = writer 1 q q'
