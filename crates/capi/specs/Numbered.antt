-- What C asks with the number of an authentication type or a privilege level. Document 01: a number "that names nothing answers none, which counts as accepted".
use Rattle.std.specs.Prelude.{ℕ, List, Option, Some, None}
use Rattle.std.specs.declared.cmp.Ordering.{Ordering}
use Rattle.std.specs.declared.cmp.Ordering.TheVariants.{Less, Equal, Greater}
use Rattle.auth.specs.Auth.{auth_type_name, auth_types, privileges, strength}
use Rattle.auth.specs.GetChannelAuthenticationCapabilities as capabilities
use Rattle.auth.specs.declared.AuthType.{AuthType}
use Rattle.auth.specs.declared.PrivilegeLevel.{PrivilegeLevel}
use Rattle.base.specs.Connection.{channel_of}
use Rattle.base.specs.Named.{named}
use Rattle.base.specs.Outcome.{Outcome, accepted, refused}
use Rattle.challenge.specs.GetSessionChallenge as challenge
use Rattle.activation.specs.ActivateSession as activation

infixl 20 ◌>>=◌
-- arguments in their order: the first that is refused or names nothing decides
abbrev pub ◌>>=◌ : {A B : Type 0} → Outcome (Option A) → (A → Outcome (Option B)) → Outcome (Option B)
accepted (Some a) >>= next = next a
accepted None >>= next = accepted None
refused number carried >>= next = refused number carried

-- an outcome that is not none
abbrev pub sure : {A : Type 0} → Outcome A → Outcome (Option A)
sure (accepted a) = accepted (Some a)
sure (refused number carried) = refused number carried

-- the whole number counts
abbrev pub type_of : ℕ → Outcome (Option AuthType)
type_of n = accepted (named auth_types n)

-- the whole number counts
abbrev pub level_of : ℕ → Outcome (Option PrivilegeLevel)
level_of n = accepted (named privileges n)

-- "request 38h, 2 bytes"
abbrev pub capabilities_request : ℕ → ℕ → Outcome (Option (List ℕ))
capabilities_request number privilege = do
  channel ← sure (channel_of number)
  level ← level_of privilege
  sure (capabilities.command_bytes (capabilities.command channel level))

-- "request 39h, 17 bytes"
abbrev pub challenge_request : ℕ → List ℕ → Outcome (Option (List ℕ))
challenge_request authType name = do
  kind ← type_of authType
  command ← sure (challenge.command_for kind name)
  sure (accepted (challenge.command_bytes command))

-- "request 3Ah, 22 bytes"
abbrev pub activation_request : ℕ → ℕ → List ℕ → ℕ → Outcome (Option (List ℕ))
activation_request authType privilege string sequence = do
  kind ← type_of authType
  level ← level_of privilege
  sure (accepted (activation.command_bytes (activation.command kind level string sequence)))

-- the Rust's Debug of a type
abbrev pub type_name : ℕ → Outcome (Option (List ℕ))
type_name authType = do
  kind ← type_of authType
  sure (accepted (auth_type_name kind))

-- how the first type's strength compares with the second's
abbrev pub compared : ℕ → ℕ → Outcome (Option Ordering)
compared authType other = do
  first ← type_of authType
  second ← type_of other
  sure (accepted (strength first second))

-- weaker, equal, stronger
abbrev pub order_number : Ordering → ℕ
order_number Less = 0
order_number Equal = 1
order_number Greater = 2
