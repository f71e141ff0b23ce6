-- A field of a byte is a position and a width, as a row of the standard's tables.
use Rattle.std.specs.Prelude.{ℕ, ◌+◌, ◌*◌, ◌/◌, ◌%◌, ◌^◌, ◌<◌, Bool, List, [], ◌∷◌, ◌≡◌, length, get_or}
use Rattle.std.specs.Int.{w8}
use mir.Val.{Fits, bool_byte}
use Rattle.base.specs.Choice.{◌=?◌, if◌from◌to◌then◌else◌}
use Rattle.base.specs.Outcome.{Outcome, accepted, refused}

-- byte k of a message
abbrev pub byte : ℕ → List ℕ → ℕ
byte k message = get_or message k 0

-- a string of bytes: each of its numbers is one
abbrev pub Bytes : List ℕ → Type 0
Bytes [] = Unit {0}
Bytes (byte ∷ bytes) = (byte < 256) × Bytes bytes

-- an array of so many bytes, as the machine has one: each has eight bits
abbrev pub Array : ℕ → List ℕ → Type 0
Array width bytes = (length bytes ≡ width) × ((k : ℕ) → Fits w8 (byte k bytes))

-- a number as a field has it: 9 outside the field's range
abbrev pub within : ℕ → ℕ → ℕ → Outcome ℕ
within first last n = if n from first to last then accepted n else refused 9 []

-- the `width` bits of a byte from bit `at` up
abbrev pub bits : ℕ → ℕ → ℕ → ℕ
bits at width byte = byte / 2 ^ at % 2 ^ width

-- whether bit `at` of a byte is set
abbrev pub flag : ℕ → ℕ → Bool
flag at byte = bits at 1 byte =? 1

-- what bit `at`, where it is set, adds to its byte
abbrev pub raised : ℕ → Bool → ℕ
raised at flag = bool_byte flag * 2 ^ at

-- a byte of flags, bit 7 first
abbrev pub flags : Bool → Bool → Bool → Bool → Bool → Bool → Bool → Bool → ℕ
flags b7 b6 b5 b4 b3 b2 b1 b0 = bool_byte b0 + raised 1 b1 + raised 2 b2 + raised 3 b3 + raised 4 b4 + raised 5 b5 + raised 6 b6 + raised 7 b7
