-- Any two outcomes that a public function's promise allows at the same arguments coincide.
use mathlib.Core.Path.{refl}
use Rattle.base.proofs.Unique.{Unique, UniquePart, both, writer}
use Rattle.base.proofs.Said.{said_one}
use Rattle.challenge.proofs as p

pub get_session_challenge_new_unique : Unique p.get_session_challenge.GetSessionChallenge.new.Kinds.ps p.get_session_challenge.GetSessionChallenge.new.Kinds.r p.get_session_challenge.GetSessionChallenge.new.Reads.Asked p.get_session_challenge.GetSessionChallenge.new.Reads.Learnt
get_session_challenge_new_unique κs a ok z z' w w' q q' = (said_one z z' (both q q'), refl)

pub get_session_challenge_auth_type_unique : Unique p.get_session_challenge.GetSessionChallenge.auth_type.Kinds.ps p.get_session_challenge.GetSessionChallenge.auth_type.Kinds.r p.get_session_challenge.GetSessionChallenge.auth_type.Reads.Asked p.get_session_challenge.GetSessionChallenge.auth_type.Reads.Learnt
get_session_challenge_auth_type_unique κs a ok z z' w w' q q' = (both q q', refl)

pub get_session_challenge_username_unique : Unique p.get_session_challenge.GetSessionChallenge.username.Kinds.ps p.get_session_challenge.GetSessionChallenge.username.Kinds.r p.get_session_challenge.GetSessionChallenge.username.Reads.Asked p.get_session_challenge.GetSessionChallenge.username.Reads.Learnt
get_session_challenge_username_unique κs a ok z z' w w' q q' = writer 1 q q'

pub get_session_challenge_write_unique : Unique p.get_session_challenge.GetSessionChallenge.write.Kinds.ps p.get_session_challenge.GetSessionChallenge.write.Kinds.r p.get_session_challenge.GetSessionChallenge.write.Reads.Asked p.get_session_challenge.GetSessionChallenge.write.Reads.Learnt
get_session_challenge_write_unique κs a ok z z' w w' q q' = writer 1 q q'

pub get_session_challenge_read_unique : Unique p.get_session_challenge.GetSessionChallenge.read.Kinds.ps p.get_session_challenge.GetSessionChallenge.read.Kinds.r p.get_session_challenge.GetSessionChallenge.read.Reads.Asked p.get_session_challenge.GetSessionChallenge.read.Reads.Learnt
get_session_challenge_read_unique κs a ok z z' w w' q q' = (said_one z z' (both q q'), refl)

pub session_challenge_parse_unique : Unique p.get_session_challenge.SessionChallenge.parse.Kinds.ps p.get_session_challenge.SessionChallenge.parse.Kinds.r p.get_session_challenge.SessionChallenge.parse.Reads.Asked p.get_session_challenge.SessionChallenge.parse.Reads.Learnt
session_challenge_parse_unique κs a ok z z' w w' q q' = (said_one z z' (both q q'), refl)

pub session_challenge_write_unique : Unique p.get_session_challenge.SessionChallenge.write.Kinds.ps p.get_session_challenge.SessionChallenge.write.Kinds.r p.get_session_challenge.SessionChallenge.write.Reads.Asked p.get_session_challenge.SessionChallenge.write.Reads.Learnt
session_challenge_write_unique κs a ok z z' w w' q q' = writer 1 q q'

pub shown_unique : UniquePart p.get_session_challenge.shown.Kinds.ps p.get_session_challenge.shown.Kinds.r p.get_session_challenge.shown.Reads.Asked p.get_session_challenge.shown.Reads.Learnt (λ κs z. z)
shown_unique κs a ok z z' w w' q q' = ((both q.lies q'.lies, both q.shows q'.shows), refl)
