-- Activate Session. Document 01, refusals 1, 3, 4 and 5, "activation 1, then 4, 3, 5"; IPMI 2.0, 22.17.
use Rattle.std.specs.Prelude.{ℕ, ◌^◌, ◌<◌, List, [], ◌∷◌, ◌++◌, length, take, drop, if◌then◌else◌}
use Rattle.base.specs.Choice.{◌<?◌}
use Rattle.base.specs.Field.{Array, byte}
use Rattle.base.specs.Little.{little, little_bytes}
use Rattle.base.specs.Named.{named, required}
use Rattle.base.specs.Outcome.{Outcome, accepted, refused, ◌>>=◌}
use Rattle.base.specs.Request.{request}
use Rattle.auth.specs.Auth.{auth_type_of, auth_type_value, auth_types, privileges, privilege_of, privilege_value}
use Rattle.auth.specs.Session.{non_zero}
use Rattle.auth.specs.declared.AuthType.{AuthType}
use Rattle.auth.specs.declared.PrivilegeLevel.{PrivilegeLevel}
use Rattle.activation.specs.declared.activate_session.ActivateSession.{ActivateSession}
use Rattle.activation.specs.declared.activate_session.BeginSessionInfo.{BeginSessionInfo}

-- The request: authentication type, level, challenge in sixteen bytes, sequence number in four.

-- a command holds its four fields
abbrev pub command : AuthType → PrivilegeLevel → List ℕ → ℕ → ActivateSession
command kind level challenge first =
    record { auth_type = kind; maximum_privilege_level = level; challenge_string = challenge; initial_sequence_number = first }

-- what every command of the machine has: its number has four bytes
pub record TypedCommand (c : ActivateSession) : Type 0 where
  pub challenge : Array 16 c.challenge_string
  pub first : c.initial_sequence_number < 2 ^ 32

-- "request 3Ah, 22 bytes"
abbrev pub command_bytes : ActivateSession → List ℕ
command_bytes c =
    auth_type_value c.auth_type ∷ privilege_value c.maximum_privilege_level ∷ c.challenge_string ++ little_bytes 4 c.initial_sequence_number

-- the same, read: "a request reader turns every fault into 10"; the whole first two bytes count
abbrev pub command_of : List ℕ → Outcome ActivateSession
command_of bytes = request 22 bytes (do
  kind ← required 10 [] (named auth_types (byte 0 bytes))
  level ← required 10 [] (named privileges (byte 1 bytes))
  accepted (command kind level (take 16 (drop 2 bytes)) (little (drop 18 bytes))))

-- The response: authentication type, session number, sequence number, level.

-- what every record of the machine has: its numbers have four bytes
pub record Typed (s : BeginSessionInfo) : Type 0 where
  pub id : s.session_id < 2 ^ 32
  pub first : s.initial_sequence_number < 2 ^ 32

-- the low nibble of the authentication byte counts (document 02, C-18), and that of the level; 4 and 5 carry the whole byte
abbrev pub begin_of : List ℕ → Outcome BeginSessionInfo
begin_of response =
    if length response <? 10 then refused 1 [] else do
      kind ← required 4 (byte 0 response ∷ []) (auth_type_of (byte 0 response))
      id ← non_zero 3 (little (byte 1 response ∷ byte 2 response ∷ byte 3 response ∷ byte 4 response ∷ []))
      level ← required 5 (byte 9 response ∷ []) (privilege_of (byte 9 response))
      accepted (record {
        auth_type = kind;
        session_id = id;
        initial_sequence_number = little (byte 5 response ∷ byte 6 response ∷ byte 7 response ∷ byte 8 response ∷ []);
        maximum_privilege_level = level;
      })

-- 9 for session number 0: no response reader gives it
abbrev pub begin_bytes : BeginSessionInfo → Outcome (List ℕ)
begin_bytes s = do
  id ← non_zero 9 s.session_id
  accepted (auth_type_value s.auth_type ∷ little_bytes 4 id ++ little_bytes 4 s.initial_sequence_number ++ privilege_value s.maximum_privilege_level ∷ [])
