-- Any two outcomes that a public function's promise allows at the same arguments coincide.
use mathlib.Core.Path.{refl}
use Rattle.base.proofs.Said.{said_one}
use Rattle.base.proofs.Unique.{Unique, both, writer}
use Rattle.set_access.proofs as p

pub access_pair_from_unique : Unique p.set_channel_access.AccessPairFromU8.from.Kinds.ps p.set_channel_access.AccessPairFromU8.from.Kinds.r p.set_channel_access.AccessPairFromU8.from.Reads.Asked p.set_channel_access.AccessPairFromU8.from.Reads.Learnt
access_pair_from_unique κs a ok z z' w w' q q' = (both q q', refl)

pub access_pair_value_unique : Unique p.set_channel_access.U8FromAccessPair.from.Kinds.ps p.set_channel_access.U8FromAccessPair.from.Kinds.r p.set_channel_access.U8FromAccessPair.from.Reads.Asked p.set_channel_access.U8FromAccessPair.from.Reads.Learnt
access_pair_value_unique κs a ok z z' w w' q q' = (both q q', refl)

pub access_pair_field_unique : Unique p.set_channel_access.AccessPair.field.Kinds.ps p.set_channel_access.AccessPair.field.Kinds.r p.set_channel_access.AccessPair.field.Reads.Asked p.set_channel_access.AccessPair.field.Reads.Learnt
access_pair_field_unique κs a ok z z' w w' q q' = (said_one z z' (both q q'), refl)

pub set_channel_access_numbered_unique : Unique p.set_channel_access.SetChannelAccess.numbered.Kinds.ps p.set_channel_access.SetChannelAccess.numbered.Kinds.r p.set_channel_access.SetChannelAccess.numbered.Reads.Asked p.set_channel_access.SetChannelAccess.numbered.Reads.Learnt
set_channel_access_numbered_unique κs a ok z z' w w' q q' = (said_one z z' (both q q'), refl)

pub set_channel_access_write_unique : Unique p.set_channel_access.SetChannelAccess.write.Kinds.ps p.set_channel_access.SetChannelAccess.write.Kinds.r p.set_channel_access.SetChannelAccess.write.Reads.Asked p.set_channel_access.SetChannelAccess.write.Reads.Learnt
set_channel_access_write_unique κs a ok z z' w w' q q' = writer 1 q q'

pub set_channel_access_read_unique : Unique p.set_channel_access.SetChannelAccess.read.Kinds.ps p.set_channel_access.SetChannelAccess.read.Kinds.r p.set_channel_access.SetChannelAccess.read.Reads.Asked p.set_channel_access.SetChannelAccess.read.Reads.Learnt
set_channel_access_read_unique κs a ok z z' w w' q q' = (said_one z z' (both q q'), refl)

pub set_channel_access_apply_unique : Unique p.set_channel_access.SetChannelAccess.apply.Kinds.ps p.set_channel_access.SetChannelAccess.apply.Kinds.r p.set_channel_access.SetChannelAccess.apply.Reads.Asked p.set_channel_access.SetChannelAccess.apply.Reads.Learnt
set_channel_access_apply_unique κs a ok z z' w w' q q' = (said_one z z' (both q q'), refl)
