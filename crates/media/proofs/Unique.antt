-- Any two outcomes that a public function's promise allows at the same arguments coincide.
use mathlib.Core.Path.{refl}
use Rattle.base.proofs.Said.{said_one}
use Rattle.base.proofs.Unique.{Unique, both, writer}
use Rattle.media.proofs as p

pub channel_medium_type_from_unique : Unique p.get_channel_info.ChannelMediumTypeFromU8.from.Kinds.ps p.get_channel_info.ChannelMediumTypeFromU8.from.Kinds.r p.get_channel_info.ChannelMediumTypeFromU8.from.Reads.Asked p.get_channel_info.ChannelMediumTypeFromU8.from.Reads.Learnt
channel_medium_type_from_unique κs a ok z z' w w' q q' = (both q q', refl)

pub channel_medium_type_value_unique : Unique p.get_channel_info.U8FromChannelMediumType.from.Kinds.ps p.get_channel_info.U8FromChannelMediumType.from.Kinds.r p.get_channel_info.U8FromChannelMediumType.from.Reads.Asked p.get_channel_info.U8FromChannelMediumType.from.Reads.Learnt
channel_medium_type_value_unique κs a ok z z' w w' q q' = (both q q', refl)

pub channel_medium_type_field_unique : Unique p.get_channel_info.ChannelMediumType.field.Kinds.ps p.get_channel_info.ChannelMediumType.field.Kinds.r p.get_channel_info.ChannelMediumType.field.Reads.Asked p.get_channel_info.ChannelMediumType.field.Reads.Learnt
channel_medium_type_field_unique κs a ok z z' w w' q q' = (said_one z z' (both q q'), refl)

pub channel_medium_type_text_unique : Unique p.get_channel_info.ChannelMediumType.text.Kinds.ps p.get_channel_info.ChannelMediumType.text.Kinds.r p.get_channel_info.ChannelMediumType.text.Reads.Asked p.get_channel_info.ChannelMediumType.text.Reads.Learnt
channel_medium_type_text_unique κs a ok z z' w w' q q' = writer 1 q q'

pub channel_protocol_type_from_unique : Unique p.get_channel_info.ChannelProtocolTypeFromU8.from.Kinds.ps p.get_channel_info.ChannelProtocolTypeFromU8.from.Kinds.r p.get_channel_info.ChannelProtocolTypeFromU8.from.Reads.Asked p.get_channel_info.ChannelProtocolTypeFromU8.from.Reads.Learnt
channel_protocol_type_from_unique κs a ok z z' w w' q q' = (both q q', refl)

pub channel_protocol_type_value_unique : Unique p.get_channel_info.U8FromChannelProtocolType.from.Kinds.ps p.get_channel_info.U8FromChannelProtocolType.from.Kinds.r p.get_channel_info.U8FromChannelProtocolType.from.Reads.Asked p.get_channel_info.U8FromChannelProtocolType.from.Reads.Learnt
channel_protocol_type_value_unique κs a ok z z' w w' q q' = (both q q', refl)

pub channel_protocol_type_field_unique : Unique p.get_channel_info.ChannelProtocolType.field.Kinds.ps p.get_channel_info.ChannelProtocolType.field.Kinds.r p.get_channel_info.ChannelProtocolType.field.Reads.Asked p.get_channel_info.ChannelProtocolType.field.Reads.Learnt
channel_protocol_type_field_unique κs a ok z z' w w' q q' = (said_one z z' (both q q'), refl)

pub channel_protocol_type_text_unique : Unique p.get_channel_info.ChannelProtocolType.text.Kinds.ps p.get_channel_info.ChannelProtocolType.text.Kinds.r p.get_channel_info.ChannelProtocolType.text.Reads.Asked p.get_channel_info.ChannelProtocolType.text.Reads.Learnt
channel_protocol_type_text_unique κs a ok z z' w w' q q' = writer 1 q q'

pub channel_session_support_from_unique : Unique p.get_channel_info.ChannelSessionSupportFromU8.from.Kinds.ps p.get_channel_info.ChannelSessionSupportFromU8.from.Kinds.r p.get_channel_info.ChannelSessionSupportFromU8.from.Reads.Asked p.get_channel_info.ChannelSessionSupportFromU8.from.Reads.Learnt
channel_session_support_from_unique κs a ok z z' w w' q q' = (both q q', refl)

pub channel_session_support_value_unique : Unique p.get_channel_info.U8FromChannelSessionSupport.from.Kinds.ps p.get_channel_info.U8FromChannelSessionSupport.from.Kinds.r p.get_channel_info.U8FromChannelSessionSupport.from.Reads.Asked p.get_channel_info.U8FromChannelSessionSupport.from.Reads.Learnt
channel_session_support_value_unique κs a ok z z' w w' q q' = (both q q', refl)

pub channel_session_support_field_unique : Unique p.get_channel_info.ChannelSessionSupport.field.Kinds.ps p.get_channel_info.ChannelSessionSupport.field.Kinds.r p.get_channel_info.ChannelSessionSupport.field.Reads.Asked p.get_channel_info.ChannelSessionSupport.field.Reads.Learnt
channel_session_support_field_unique κs a ok z z' w w' q q' = (said_one z z' (both q q'), refl)

pub channel_session_support_text_unique : Unique p.get_channel_info.ChannelSessionSupport.text.Kinds.ps p.get_channel_info.ChannelSessionSupport.text.Kinds.r p.get_channel_info.ChannelSessionSupport.text.Reads.Asked p.get_channel_info.ChannelSessionSupport.text.Reads.Learnt
channel_session_support_text_unique κs a ok z z' w w' q q' = writer 1 q q'
