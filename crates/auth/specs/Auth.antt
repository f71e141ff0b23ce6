-- Authentication types, their strength, and privilege levels. Document 01: "AuthType 0, 1, 2, 4; strength order; PrivilegeLevel 1 to 5 from the low nibble".
use Rattle.std.specs.Prelude.{ℕ, Bool, List, [], ◌∷◌, if◌then◌else◌, Option, Some, None}
use Rattle.std.specs.Ordering.{nat_cmp}
use Rattle.std.specs.declared.cmp.Ordering.{Ordering}
use Rattle.base.specs.Field.{bits}
use Rattle.base.specs.Named.{named}
use Rattle.base.specs.Text.{ascii}
use Rattle.auth.specs.declared.AuthType.{AuthType}
use Rattle.auth.specs.declared.AuthType.TheVariants as Kind
use Rattle.auth.specs.declared.PrivilegeLevel.{PrivilegeLevel}
use Rattle.auth.specs.declared.PrivilegeLevel.TheVariants.{Callback, User, Operator, Administrator, OemProperietary}

-- from 0 up, IPMI 2.0, 22.17.1: 3 is reserved, and 5 (OEM) and above have no name in the Rust
abbrev pub auth_types : List (Option AuthType)
auth_types = Some Kind.None ∷ Some Kind.MD2 ∷ Some Kind.MD5 ∷ None ∷ Some Kind.Key ∷ []

-- document 02, C-18: "The reading of an auth type from a byte now ignores the high nibble"; IPMI 2.0, 22.17: it is reserved
abbrev pub auth_type_of : ℕ → Option AuthType
auth_type_of n = named auth_types (bits 0 4 n)

-- "AuthType 0, 1, 2, 4"
abbrev pub auth_type_value : AuthType → ℕ
auth_type_value Kind.None = 0
auth_type_value Kind.MD2 = 1
auth_type_value Kind.MD5 = 2
auth_type_value Kind.Key = 4

-- the Rust's Debug
abbrev pub auth_type_name : AuthType → List ℕ
auth_type_name Kind.None = ascii "None"
auth_type_name Kind.MD2 = ascii "MD2"
auth_type_name Kind.MD5 = ascii "MD5"
auth_type_name Kind.Key = ascii "Key"

-- weakest first: None, Key, MD2, MD5
abbrev pub rank : AuthType → ℕ
rank Kind.None = 0
rank Kind.Key = 1
rank Kind.MD2 = 2
rank Kind.MD5 = 3

-- "strength order": by ranks
abbrev pub strength : AuthType → AuthType → Ordering
strength a b = nat_cmp (rank a) (rank b)

-- of the types that are offered, Key, MD5, MD2 and None, "the first advertised of MD5, MD2, Key, None"
abbrev pub best_of : Bool → Bool → Bool → Bool → Option AuthType
best_of key md5 md2 plain =
    if md5 then Some Kind.MD5 else
    if md2 then Some Kind.MD2 else
    if key then Some Kind.Key else
    if plain then Some Kind.None else None

-- from 0 up, IPMI 2.0, 6.8
abbrev pub privileges : List (Option PrivilegeLevel)
privileges = None ∷ Some Callback ∷ Some User ∷ Some Operator ∷ Some Administrator ∷ Some OemProperietary ∷ []

-- the low nibble counts
abbrev pub privilege_of : ℕ → Option PrivilegeLevel
privilege_of n = named privileges (bits 0 4 n)

-- "PrivilegeLevel 1 to 5"
abbrev pub privilege_value : PrivilegeLevel → ℕ
privilege_value Callback = 1
privilege_value User = 2
privilege_value Operator = 3
privilege_value Administrator = 4
privilege_value OemProperietary = 5
