-- Any two outcomes that a public function's promise allows at the same arguments coincide.
use Rattle.base.proofs.Unique.{Unique, writer}
use Rattle.texts.proofs as p

pub info_text_unique : Unique p.info_text.Kinds.ps p.info_text.Kinds.r p.info_text.Reads.Asked p.info_text.Reads.Learnt
info_text_unique κs a ok z z' w w' q q' = writer 1 q q'

pub access_text_unique : Unique p.access_text.Kinds.ps p.access_text.Kinds.r p.access_text.Reads.Asked p.access_text.Reads.Learnt
access_text_unique κs a ok z z' w w' q q' = writer 1 q q'

pub auth_text_unique : Unique p.auth_text.Kinds.ps p.auth_text.Kinds.r p.auth_text.Reads.Asked p.auth_text.Reads.Learnt
auth_text_unique κs a ok z z' w w' q q' = writer 1 q q'

pub refused_text_unique : Unique p.refused_text.Kinds.ps p.refused_text.Kinds.r p.refused_text.Reads.Asked p.refused_text.Reads.Learnt
refused_text_unique κs a ok z z' w w' q q' = writer 1 q q'

pub missing_text_unique : Unique p.missing_text.Kinds.ps p.missing_text.Kinds.r p.missing_text.Reads.Asked p.missing_text.Reads.Learnt
missing_text_unique κs a ok z z' w w' q q' = writer 1 q q'

pub suites_text_unique : Unique p.suites_text.Kinds.ps p.suites_text.Kinds.r p.suites_text.Reads.Asked p.suites_text.Reads.Learnt
suites_text_unique κs a ok z z' w w' q q' = writer 1 q q'

pub block_text_unique : Unique p.block_text.Kinds.ps p.block_text.Kinds.r p.block_text.Reads.Asked p.block_text.Reads.Learnt
block_text_unique κs a ok z z' w w' q q' = writer 2 q q'
