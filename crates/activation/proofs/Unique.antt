-- Any two outcomes that a public function's promise allows at the same arguments coincide.
use mathlib.Core.Path.{refl}
use Rattle.base.proofs.Unique.{Unique, both, writer}
use Rattle.base.proofs.Said.{said_one}
use Rattle.activation.proofs as p

pub activate_session_write_unique : Unique p.activate_session.ActivateSession.write.Kinds.ps p.activate_session.ActivateSession.write.Kinds.r p.activate_session.ActivateSession.write.Reads.Asked p.activate_session.ActivateSession.write.Reads.Learnt
activate_session_write_unique κs a ok z z' w w' q q' = writer 1 q q'

pub activate_session_read_unique : Unique p.activate_session.ActivateSession.read.Kinds.ps p.activate_session.ActivateSession.read.Kinds.r p.activate_session.ActivateSession.read.Reads.Asked p.activate_session.ActivateSession.read.Reads.Learnt
activate_session_read_unique κs a ok z z' w w' q q' = (said_one z z' (both q q'), refl)

pub begin_session_info_parse_unique : Unique p.activate_session.BeginSessionInfo.parse.Kinds.ps p.activate_session.BeginSessionInfo.parse.Kinds.r p.activate_session.BeginSessionInfo.parse.Reads.Asked p.activate_session.BeginSessionInfo.parse.Reads.Learnt
begin_session_info_parse_unique κs a ok z z' w w' q q' = (said_one z z' (both q q'), refl)

pub begin_session_info_write_unique : Unique p.activate_session.BeginSessionInfo.write.Kinds.ps p.activate_session.BeginSessionInfo.write.Kinds.r p.activate_session.BeginSessionInfo.write.Reads.Asked p.activate_session.BeginSessionInfo.write.Reads.Learnt
begin_session_info_write_unique κs a ok z z' w w' q q' = writer 1 q q'
