-- Get Channel Access. Document 01, "Access"; IPMI 2.0, Table 22-28.
use Rattle.std.specs.Prelude.{ℕ, ◌+◌, Bool, true, false, List, [], ◌∷◌, length, get_or, if◌then◌else◌}
use Rattle.base.specs.Choice.{◌<?◌, ◌=?◌}
use Rattle.base.specs.Connection.{channel_of, channel_field}
use Rattle.base.specs.Field.{byte, bits, flag, raised, within}
use Rattle.base.specs.Outcome.{Outcome, accepted, refused, ◌>>=◌}
use Rattle.base.specs.Request.{request}
use Rattle.base.specs.Text.{ascii, coded}
use Rattle.base.specs.declared.connection.Channel.{Channel}
use Rattle.access.specs.declared.get_channel_access.ChannelAccess.{ChannelAccess}
use Rattle.access.specs.declared.get_channel_access.ChannelAccessMode.{ChannelAccessMode}
use Rattle.access.specs.declared.get_channel_access.ChannelAccessMode.TheVariants as Mode
use Rattle.access.specs.declared.get_channel_access.ChannelAccessType.{ChannelAccessType}
use Rattle.access.specs.declared.get_channel_access.ChannelAccessType.TheVariants.{NonVolatile, Volatile}
use Rattle.access.specs.declared.get_channel_access.ChannelPrivilegeLevel.{ChannelPrivilegeLevel}
use Rattle.access.specs.declared.get_channel_access.ChannelPrivilegeLevel.TheVariants as Level
use Rattle.access.specs.declared.get_channel_access.GetChannelAccess.{GetChannelAccess}

-- The request: byte 0 is the channel, byte 1 which settings.

-- "0x40 non-volatile, 0x80 volatile"
abbrev pub type_of : ℕ → Outcome ChannelAccessType
type_of n =
    if n =? 0x40 then accepted NonVolatile else
    if n =? 0x80 then accepted Volatile else refused 10 []

-- the same, from the type
abbrev pub type_byte : ChannelAccessType → ℕ
type_byte NonVolatile = 0x40
type_byte Volatile = 0x80

-- a command holds its channel and which settings it asks for
abbrev pub command : Channel → ChannelAccessType → GetChannelAccess
command channel kind = record { channel = channel; access_type = kind }

-- made for a channel that is given as a number
abbrev pub command_for : ℕ → ChannelAccessType → Outcome GetChannelAccess
command_for number kind = do
  channel ← channel_of number
  accepted (command channel kind)

-- "request 41h, 2 bytes"; 9 for "a command whose channel no number makes"
abbrev pub command_bytes : GetChannelAccess → Outcome (List ℕ)
command_bytes c = do
  channel ← channel_field c.channel
  accepted (channel ∷ type_byte c.access_type ∷ [])

-- the same, read: "a request reader turns every fault into 10"
abbrev pub command_of : List ℕ → Outcome GetChannelAccess
command_of bytes = request 2 bytes (do
  channel ← channel_of (byte 0 bytes)
  kind ← type_of (byte 1 bytes)
  accepted (command channel kind))

-- The response: byte 0 has the mode and three flags, byte 1 the limit.

-- from 0 up, Table 6-4
abbrev pub modes : List ChannelAccessMode
modes = Mode.Disabled ∷ Mode.PreBootOnly ∷ Mode.AlwaysAvailable ∷ Mode.Shared ∷ []

-- "low three bits mode (0 to 3 named)"
abbrev pub mode_of : ℕ → ChannelAccessMode
mode_of n = get_or modes n (Mode.Unknown n)

-- from 0 up
abbrev pub limits : List ChannelPrivilegeLevel
limits = Level.Reserved ∷ Level.Callback ∷ Level.User ∷ Level.Operator ∷ Level.Administrator ∷ Level.Oem ∷ []

-- "low nibble is the limit (0 to 5 named)"
abbrev pub limit_of : ℕ → ChannelPrivilegeLevel
limit_of n = get_or limits n (Level.Unknown n)

-- bits 5, 4 and 3 say what is DISABLED
abbrev pub access_fields : ℕ → ℕ → ChannelAccess
access_fields first second =
    record {
      access_mode = mode_of (bits 0 3 first);
      alerting_disabled = flag 5 first;
      per_msg_auth_disabled = flag 4 first;
      user_level_auth_disabled = flag 3 first;
      privilege_level_limit = limit_of (bits 0 4 second);
    }

-- "response at least 2"
abbrev pub access_of : List ℕ → Outcome ChannelAccess
access_of response =
    if length response <? 2 then refused 1 [] else
    accepted (access_fields (byte 0 response) (byte 1 response))

-- a mode's number: an unknown one's is the number that it holds
abbrev pub mode_value : ChannelAccessMode → ℕ
mode_value Mode.Disabled = 0
mode_value Mode.PreBootOnly = 1
mode_value Mode.AlwaysAvailable = 2
mode_value Mode.Shared = 3
mode_value (Mode.Unknown n) = n

-- what the field of a message has for a mode: 9 where no reading of the field gives it
abbrev pub mode_field : ChannelAccessMode → Outcome ℕ
mode_field Mode.Disabled = accepted (mode_value Mode.Disabled)
mode_field Mode.PreBootOnly = accepted (mode_value Mode.PreBootOnly)
mode_field Mode.AlwaysAvailable = accepted (mode_value Mode.AlwaysAvailable)
mode_field Mode.Shared = accepted (mode_value Mode.Shared)
mode_field (Mode.Unknown n) = within 4 7 n

-- a limit's number: an unknown one's is the number that it holds
abbrev pub limit_value : ChannelPrivilegeLevel → ℕ
limit_value Level.Reserved = 0
limit_value Level.Callback = 1
limit_value Level.User = 2
limit_value Level.Operator = 3
limit_value Level.Administrator = 4
limit_value Level.Oem = 5
limit_value (Level.Unknown n) = n

-- the same for a limit
abbrev pub limit_field : ChannelPrivilegeLevel → Outcome ℕ
limit_field Level.Reserved = accepted (limit_value Level.Reserved)
limit_field Level.Callback = accepted (limit_value Level.Callback)
limit_field Level.User = accepted (limit_value Level.User)
limit_field Level.Operator = accepted (limit_value Level.Operator)
limit_field Level.Administrator = accepted (limit_value Level.Administrator)
limit_field Level.Oem = accepted (limit_value Level.Oem)
limit_field (Level.Unknown n) = within 6 15 n

-- the fields at their bits; 9 for a mode or limit that no reader gives
abbrev pub access_bytes : ChannelAccess → Outcome (List ℕ)
access_bytes a = do
  mode ← mode_field a.access_mode
  limit ← limit_field a.privilege_level_limit
  accepted ((mode + raised 3 a.user_level_auth_disabled + raised 4 a.per_msg_auth_disabled + raised 5 a.alerting_disabled) ∷ limit ∷ [])

-- the Rust's is_disabled: the mode alone
abbrev pub is_disabled : ChannelAccessMode → Bool
is_disabled Mode.Disabled = true
is_disabled Mode.PreBootOnly = false
is_disabled Mode.AlwaysAvailable = false
is_disabled Mode.Shared = false
is_disabled (Mode.Unknown n) = false

-- the Rust's Display
abbrev pub mode_text : ChannelAccessMode → List ℕ
mode_text Mode.Disabled = ascii "Disabled"
mode_text Mode.PreBootOnly = ascii "Pre-boot Only"
mode_text Mode.AlwaysAvailable = ascii "Always Available"
mode_text Mode.Shared = ascii "Shared"
mode_text (Mode.Unknown n) = coded (ascii "Unknown") n

-- the Rust's Display
abbrev pub limit_text : ChannelPrivilegeLevel → List ℕ
limit_text Level.Reserved = ascii "Reserved"
limit_text Level.Callback = ascii "Callback"
limit_text Level.User = ascii "User"
limit_text Level.Operator = ascii "Operator"
limit_text Level.Administrator = ascii "Administrator"
limit_text Level.Oem = ascii "OEM"
limit_text (Level.Unknown n) = coded (ascii "Unknown") n
