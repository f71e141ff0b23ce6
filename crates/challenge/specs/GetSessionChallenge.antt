-- Get Session Challenge. Document 01, refusals 1, 3 and 8, "The name is padded with zeros and shown up to its first zero"; IPMI 2.0, 22.16.
use Rattle.std.specs.Prelude.{ℕ, ◌^◌, ◌<◌, List, [], ◌∷◌, ◌++◌, length, drop, if◌then◌else◌}
use Rattle.base.specs.Choice.{◌<?◌, ◌=?◌}
use Rattle.base.specs.Field.{Array, byte}
use Rattle.base.specs.Little.{little, little_bytes}
use Rattle.base.specs.Named.{named, required}
use Rattle.base.specs.Outcome.{Outcome, accepted, refused, ◌>>=◌}
use Rattle.base.specs.Request.{request}
use Rattle.base.specs.Written.{padded}
use Rattle.auth.specs.Auth.{auth_type_value, auth_types}
use Rattle.auth.specs.Session.{non_zero}
use Rattle.auth.specs.declared.AuthType.{AuthType}
use Rattle.challenge.specs.declared.get_session_challenge.GetSessionChallenge.{GetSessionChallenge}
use Rattle.challenge.specs.declared.get_session_challenge.SessionChallenge.{SessionChallenge}

-- The request: the authentication type, then the name in sixteen bytes.

-- a command holds its type and sixteen bytes of name
abbrev pub command : AuthType → List ℕ → GetSessionChallenge
command kind name = record { auth_type = kind; username = name }

-- the name "padded with zeros"
abbrev pub command_for : AuthType → List ℕ → Outcome GetSessionChallenge
command_for kind name = if 16 <? length name then refused 8 [] else accepted (command kind (padded 16 name))

-- what every command of the machine has
abbrev pub TypedCommand : GetSessionChallenge → Type 0
TypedCommand c = Array 16 c.username

-- "request 39h, 17 bytes"
abbrev pub command_bytes : GetSessionChallenge → List ℕ
command_bytes c = auth_type_value c.auth_type ∷ c.username

-- the same, read: "a request reader turns every fault into 10"; the whole first byte counts
abbrev pub command_of : List ℕ → Outcome GetSessionChallenge
command_of bytes = request 17 bytes (do
  kind ← required 10 [] (named auth_types (byte 0 bytes))
  accepted (command kind (drop 1 bytes)))

-- "shown up to its first zero"
unfoldable pub shown : List ℕ → List ℕ
shown [] = []
shown (byte ∷ name) = if byte =? 0 then [] else byte ∷ shown name

-- The response: the temporary session's number, then the challenge in sixteen bytes.

-- a challenge holds the session's number and sixteen bytes
abbrev pub challenge : ℕ → List ℕ → SessionChallenge
challenge id string = record { temporary_session_id = id; challenge_string = string }

-- what every challenge of the machine has: its number has four bytes
pub record Typed (c : SessionChallenge) : Type 0 where
  pub id : c.temporary_session_id < 2 ^ 32
  pub string : Array 16 c.challenge_string

-- "challenge 1, then 3"
abbrev pub challenge_of : List ℕ → Outcome SessionChallenge
challenge_of response =
    if length response =? 20 then (do
      id ← non_zero 3 (little (byte 0 response ∷ byte 1 response ∷ byte 2 response ∷ byte 3 response ∷ []))
      accepted (challenge id (drop 4 response)))
    else refused 1 []

-- 9 for session number 0: no response reader gives it
abbrev pub challenge_bytes : SessionChallenge → Outcome (List ℕ)
challenge_bytes c = do
  id ← non_zero 9 c.temporary_session_id
  accepted (little_bytes 4 id ++ c.challenge_string)
