-- Any two outcomes that a layout's promise allows at the same arguments coincide.
use mathlib.Core.Path.{refl}
use Rattle.base.proofs.Unique.{Unique, both}
use Rattle.layouts.proofs as p

pub access_layout_unique : Unique p.access_layout.Kinds.ps p.access_layout.Kinds.r p.access_layout.Reads.Asked p.access_layout.Reads.Learnt
access_layout_unique κs a ok z z' w w' q q' = (both q q', refl)

pub info_layout_unique : Unique p.info_layout.Kinds.ps p.info_layout.Kinds.r p.info_layout.Reads.Asked p.info_layout.Reads.Learnt
info_layout_unique κs a ok z z' w w' q q' = (both q q', refl)

pub capabilities_layout_unique : Unique p.capabilities_layout.Kinds.ps p.capabilities_layout.Kinds.r p.capabilities_layout.Reads.Asked p.capabilities_layout.Reads.Learnt
capabilities_layout_unique κs a ok z z' w w' q q' = (both q q', refl)

pub access_record_unique : Unique p.access_record.Kinds.ps p.access_record.Kinds.r p.access_record.Reads.Asked p.access_record.Reads.Learnt
access_record_unique κs a ok z z' w w' q q' = (both q q', refl)

pub set_access_layout_unique : Unique p.set_access_layout.Kinds.ps p.set_access_layout.Kinds.r p.set_access_layout.Reads.Asked p.set_access_layout.Reads.Learnt
set_access_layout_unique κs a ok z z' w w' q q' = (both q q', refl)

pub settings_layout_unique : Unique p.settings_layout.Kinds.ps p.settings_layout.Kinds.r p.settings_layout.Reads.Asked p.settings_layout.Reads.Learnt
settings_layout_unique κs a ok z z' w w' q q' = (both q q', refl)

pub settings_record_unique : Unique p.settings_record.Kinds.ps p.settings_record.Kinds.r p.settings_record.Reads.Asked p.settings_record.Reads.Learnt
settings_record_unique κs a ok z z' w w' q q' = (both q q', refl)
