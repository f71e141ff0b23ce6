-- Any two outcomes that a public function's promise allows at the same arguments coincide.
use mathlib.Core.Path.{refl}
use Rattle.base.proofs.Said.{said_one}
use Rattle.base.proofs.Unique.{Unique, both, writer}
use Rattle.access.proofs as p

pub channel_access_type_byte_unique : Unique p.get_channel_access.ChannelAccessType.byte.Kinds.ps p.get_channel_access.ChannelAccessType.byte.Kinds.r p.get_channel_access.ChannelAccessType.byte.Reads.Asked p.get_channel_access.ChannelAccessType.byte.Reads.Learnt
channel_access_type_byte_unique κs a ok z z' w w' q q' = (both q q', refl)

pub get_channel_access_new_unique : Unique p.get_channel_access.GetChannelAccess.new.Kinds.ps p.get_channel_access.GetChannelAccess.new.Kinds.r p.get_channel_access.GetChannelAccess.new.Reads.Asked p.get_channel_access.GetChannelAccess.new.Reads.Learnt
get_channel_access_new_unique κs a ok z z' w w' q q' = (both q q', refl)

pub get_channel_access_non_volatile_unique : Unique p.get_channel_access.GetChannelAccess.non_volatile.Kinds.ps p.get_channel_access.GetChannelAccess.non_volatile.Kinds.r p.get_channel_access.GetChannelAccess.non_volatile.Reads.Asked p.get_channel_access.GetChannelAccess.non_volatile.Reads.Learnt
get_channel_access_non_volatile_unique κs a ok z z' w w' q q' = (both q q', refl)

pub get_channel_access_volatile_unique : Unique p.get_channel_access.GetChannelAccess.volatile.Kinds.ps p.get_channel_access.GetChannelAccess.volatile.Kinds.r p.get_channel_access.GetChannelAccess.volatile.Reads.Asked p.get_channel_access.GetChannelAccess.volatile.Reads.Learnt
get_channel_access_volatile_unique κs a ok z z' w w' q q' = (both q q', refl)

pub get_channel_access_numbered_unique : Unique p.get_channel_access.GetChannelAccess.numbered.Kinds.ps p.get_channel_access.GetChannelAccess.numbered.Kinds.r p.get_channel_access.GetChannelAccess.numbered.Reads.Asked p.get_channel_access.GetChannelAccess.numbered.Reads.Learnt
get_channel_access_numbered_unique κs a ok z z' w w' q q' = (said_one z z' (both q q'), refl)

pub get_channel_access_write_unique : Unique p.get_channel_access.GetChannelAccess.write.Kinds.ps p.get_channel_access.GetChannelAccess.write.Kinds.r p.get_channel_access.GetChannelAccess.write.Reads.Asked p.get_channel_access.GetChannelAccess.write.Reads.Learnt
get_channel_access_write_unique κs a ok z z' w w' q q' = writer 1 q q'

pub get_channel_access_read_unique : Unique p.get_channel_access.GetChannelAccess.read.Kinds.ps p.get_channel_access.GetChannelAccess.read.Kinds.r p.get_channel_access.GetChannelAccess.read.Reads.Asked p.get_channel_access.GetChannelAccess.read.Reads.Learnt
get_channel_access_read_unique κs a ok z z' w w' q q' = (said_one z z' (both q q'), refl)

pub channel_access_parse_unique : Unique p.get_channel_access.ChannelAccess.parse.Kinds.ps p.get_channel_access.ChannelAccess.parse.Kinds.r p.get_channel_access.ChannelAccess.parse.Reads.Asked p.get_channel_access.ChannelAccess.parse.Reads.Learnt
channel_access_parse_unique κs a ok z z' w w' q q' = (said_one z z' (both q q'), refl)

pub channel_access_is_disabled_unique : Unique p.get_channel_access.ChannelAccess.is_disabled.Kinds.ps p.get_channel_access.ChannelAccess.is_disabled.Kinds.r p.get_channel_access.ChannelAccess.is_disabled.Reads.Asked p.get_channel_access.ChannelAccess.is_disabled.Reads.Learnt
channel_access_is_disabled_unique κs a ok z z' w w' q q' = (both q q', refl)

pub channel_access_bytes_unique : Unique p.get_channel_access.ChannelAccess.bytes.Kinds.ps p.get_channel_access.ChannelAccess.bytes.Kinds.r p.get_channel_access.ChannelAccess.bytes.Reads.Asked p.get_channel_access.ChannelAccess.bytes.Reads.Learnt
channel_access_bytes_unique κs a ok z z' w w' q q' = (said_one z z' (both q q'), refl)

pub channel_access_write_unique : Unique p.get_channel_access.ChannelAccess.write.Kinds.ps p.get_channel_access.ChannelAccess.write.Kinds.r p.get_channel_access.ChannelAccess.write.Reads.Asked p.get_channel_access.ChannelAccess.write.Reads.Learnt
channel_access_write_unique κs a ok z z' w w' q q' = writer 1 q q'

pub channel_access_mode_from_unique : Unique p.get_channel_access.ChannelAccessModeFromU8.from.Kinds.ps p.get_channel_access.ChannelAccessModeFromU8.from.Kinds.r p.get_channel_access.ChannelAccessModeFromU8.from.Reads.Asked p.get_channel_access.ChannelAccessModeFromU8.from.Reads.Learnt
channel_access_mode_from_unique κs a ok z z' w w' q q' = (both q q', refl)

pub channel_access_mode_value_unique : Unique p.get_channel_access.U8FromChannelAccessMode.from.Kinds.ps p.get_channel_access.U8FromChannelAccessMode.from.Kinds.r p.get_channel_access.U8FromChannelAccessMode.from.Reads.Asked p.get_channel_access.U8FromChannelAccessMode.from.Reads.Learnt
channel_access_mode_value_unique κs a ok z z' w w' q q' = (both q q', refl)

pub channel_access_mode_field_unique : Unique p.get_channel_access.ChannelAccessMode.field.Kinds.ps p.get_channel_access.ChannelAccessMode.field.Kinds.r p.get_channel_access.ChannelAccessMode.field.Reads.Asked p.get_channel_access.ChannelAccessMode.field.Reads.Learnt
channel_access_mode_field_unique κs a ok z z' w w' q q' = (said_one z z' (both q q'), refl)

pub channel_access_mode_text_unique : Unique p.get_channel_access.ChannelAccessMode.text.Kinds.ps p.get_channel_access.ChannelAccessMode.text.Kinds.r p.get_channel_access.ChannelAccessMode.text.Reads.Asked p.get_channel_access.ChannelAccessMode.text.Reads.Learnt
channel_access_mode_text_unique κs a ok z z' w w' q q' = writer 1 q q'

pub channel_privilege_level_from_unique : Unique p.get_channel_access.ChannelPrivilegeLevelFromU8.from.Kinds.ps p.get_channel_access.ChannelPrivilegeLevelFromU8.from.Kinds.r p.get_channel_access.ChannelPrivilegeLevelFromU8.from.Reads.Asked p.get_channel_access.ChannelPrivilegeLevelFromU8.from.Reads.Learnt
channel_privilege_level_from_unique κs a ok z z' w w' q q' = (both q q', refl)

pub channel_privilege_level_value_unique : Unique p.get_channel_access.U8FromChannelPrivilegeLevel.from.Kinds.ps p.get_channel_access.U8FromChannelPrivilegeLevel.from.Kinds.r p.get_channel_access.U8FromChannelPrivilegeLevel.from.Reads.Asked p.get_channel_access.U8FromChannelPrivilegeLevel.from.Reads.Learnt
channel_privilege_level_value_unique κs a ok z z' w w' q q' = (both q q', refl)

pub channel_privilege_level_field_unique : Unique p.get_channel_access.ChannelPrivilegeLevel.field.Kinds.ps p.get_channel_access.ChannelPrivilegeLevel.field.Kinds.r p.get_channel_access.ChannelPrivilegeLevel.field.Reads.Asked p.get_channel_access.ChannelPrivilegeLevel.field.Reads.Learnt
channel_privilege_level_field_unique κs a ok z z' w w' q q' = (said_one z z' (both q q'), refl)

pub channel_privilege_level_text_unique : Unique p.get_channel_access.ChannelPrivilegeLevel.text.Kinds.ps p.get_channel_access.ChannelPrivilegeLevel.text.Kinds.r p.get_channel_access.ChannelPrivilegeLevel.text.Reads.Asked p.get_channel_access.ChannelPrivilegeLevel.text.Reads.Learnt
channel_privilege_level_text_unique κs a ok z z' w w' q q' = writer 1 q q'
