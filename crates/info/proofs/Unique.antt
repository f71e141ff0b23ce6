-- Any two outcomes that a public function's promise allows at the same arguments coincide.
use mathlib.Core.Path.{refl}
use Rattle.base.proofs.Said.{said_one}
use Rattle.base.proofs.Unique.{Unique, both, writer}
use Rattle.info.proofs as p

pub get_channel_info_new_unique : Unique p.get_channel_info.GetChannelInfo.new.Kinds.ps p.get_channel_info.GetChannelInfo.new.Kinds.r p.get_channel_info.GetChannelInfo.new.Reads.Asked p.get_channel_info.GetChannelInfo.new.Reads.Learnt
get_channel_info_new_unique κs a ok z z' w w' q q' = (both q q', refl)

pub get_channel_info_numbered_unique : Unique p.get_channel_info.GetChannelInfo.numbered.Kinds.ps p.get_channel_info.GetChannelInfo.numbered.Kinds.r p.get_channel_info.GetChannelInfo.numbered.Reads.Asked p.get_channel_info.GetChannelInfo.numbered.Reads.Learnt
get_channel_info_numbered_unique κs a ok z z' w w' q q' = (said_one z z' (both q q'), refl)

pub get_channel_info_write_unique : Unique p.get_channel_info.GetChannelInfo.write.Kinds.ps p.get_channel_info.GetChannelInfo.write.Kinds.r p.get_channel_info.GetChannelInfo.write.Reads.Asked p.get_channel_info.GetChannelInfo.write.Reads.Learnt
get_channel_info_write_unique κs a ok z z' w w' q q' = writer 1 q q'

pub get_channel_info_read_unique : Unique p.get_channel_info.GetChannelInfo.read.Kinds.ps p.get_channel_info.GetChannelInfo.read.Kinds.r p.get_channel_info.GetChannelInfo.read.Reads.Asked p.get_channel_info.GetChannelInfo.read.Reads.Learnt
get_channel_info_read_unique κs a ok z z' w w' q q' = (said_one z z' (both q q'), refl)

pub channel_info_parse_unique : Unique p.get_channel_info.ChannelInfo.parse.Kinds.ps p.get_channel_info.ChannelInfo.parse.Kinds.r p.get_channel_info.ChannelInfo.parse.Reads.Asked p.get_channel_info.ChannelInfo.parse.Reads.Learnt
channel_info_parse_unique κs a ok z z' w w' q q' = (said_one z z' (both q q'), refl)

pub channel_info_write_unique : Unique p.get_channel_info.ChannelInfo.write.Kinds.ps p.get_channel_info.ChannelInfo.write.Kinds.r p.get_channel_info.ChannelInfo.write.Reads.Asked p.get_channel_info.ChannelInfo.write.Reads.Learnt
channel_info_write_unique κs a ok z z' w w' q q' = writer 1 q q'
