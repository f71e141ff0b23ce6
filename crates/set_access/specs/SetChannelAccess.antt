-- Set Channel Access. Document 02, C-11; IPMI 2.0, section 22.22.
use Rattle.std.specs.Prelude.{ℕ, ◌+◌, ◌*◌, ◌^◌, Bool, true, false, List, [], ◌∷◌, get_or, drop, if◌then◌else◌}
use Rattle.base.specs.Connection.{channel_of, channel_field}
use Rattle.base.specs.Field.{byte, bits, within}
use Rattle.base.specs.Outcome.{Outcome, accepted, refused, ◌>>=◌}
use Rattle.base.specs.Request.{request}
use Rattle.base.specs.declared.connection.Channel.{Channel}
use Rattle.access.specs.GetChannelAccess.{access_of, access_bytes}
use Rattle.access.specs.declared.get_channel_access.ChannelAccess.{ChannelAccess}
use Rattle.access.specs.declared.get_channel_access.ChannelAccessType.{ChannelAccessType}
use Rattle.access.specs.declared.get_channel_access.ChannelAccessType.TheVariants as Kind
use Rattle.set_access.specs.declared.set_channel_access.AccessPair.{AccessPair}
use Rattle.set_access.specs.declared.set_channel_access.AccessPair.TheVariants.{Leave, NonVolatile, Volatile, Reserved}
use Rattle.set_access.specs.declared.set_channel_access.ChannelSettings.{ChannelSettings}
use Rattle.set_access.specs.declared.set_channel_access.SetChannelAccess.{SetChannelAccess}

-- The pairs, bits 7:6 of bytes 1 and 2.

-- from 0 up: "00 leave, 01 set non-volatile, 10 set volatile"
abbrev pub pairs : List AccessPair
pairs = Leave ∷ NonVolatile ∷ Volatile ∷ []

-- "11 is reserved in both pairs"
abbrev pub pair_of : ℕ → AccessPair
pair_of n = get_or pairs n Reserved

-- the same, from the pair: the two bits as a number
abbrev pub pair_value : AccessPair → ℕ
pair_value Leave = 0
pair_value NonVolatile = 1
pair_value Volatile = 2
pair_value Reserved = 3

-- what a request has for a pair; "9 .. for 11 in either pair of bits"
abbrev pub pair_field : AccessPair → Outcome ℕ
pair_field Leave = accepted (pair_value Leave)
pair_field NonVolatile = accepted (pair_value NonVolatile)
pair_field Volatile = accepted (pair_value Volatile)
pair_field Reserved = refused 9 []

-- bits 7:6 of a byte, which are not 11
abbrev pub pair_in : ℕ → Outcome AccessPair
pair_in byte = do
  number ← pair_field (pair_of (bits 6 2 byte))
  accepted (pair_of (bits 6 2 byte))

-- The command.

-- a command holds its channel, where its two parts go, and both as a Get response has them
abbrev pub command : Channel → AccessPair → AccessPair → ChannelAccess → SetChannelAccess
command channel modePair limitPair access = record { channel = channel; mode_pair = modePair; limit_pair = limitPair; access = access }

-- made for a channel that is given as a number
abbrev pub command_for : ℕ → AccessPair → AccessPair → ChannelAccess → Outcome SetChannelAccess
command_for number modePair limitPair access = do
  channel ← channel_of number
  accepted (command channel modePair limitPair access)

-- bytes 1 and 2: each pair above what a Get response has in that byte; "9 .. for 11 in either pair of bits or a mode or limit that no Get reader gives"
abbrev pub parts_bytes : SetChannelAccess → Outcome (List ℕ)
parts_bytes c = do
  mode ← pair_field c.mode_pair
  limit ← pair_field c.limit_pair
  access ← access_bytes c.access
  accepted ((byte 0 access + mode * 2 ^ 6) ∷ (byte 1 access + limit * 2 ^ 6) ∷ [])

-- "App 40h, three bytes. Byte 0 is the channel"; 9 also for "a command whose channel no number makes"
abbrev pub command_bytes : SetChannelAccess → Outcome (List ℕ)
command_bytes c = do
  channel ← channel_field c.channel
  parts ← parts_bytes c
  accepted (channel ∷ parts)

-- the same, read: "a request reader turns every fault into 10"; bits 5:4 of byte 2 are written 0
abbrev pub command_of : List ℕ → Outcome SetChannelAccess
command_of bytes = request 3 bytes (do
  channel ← channel_of (byte 0 bytes)
  modePair ← pair_in (byte 1 bytes)
  limitPair ← pair_in (byte 2 bytes)
  reserved ← within 0 0 (bits 4 2 (byte 2 bytes))
  access ← access_of (drop 1 bytes)
  accepted (command channel modePair limitPair access))

-- The command applied to "one channel's two settings, non-volatile and volatile, without its number".

-- which of the two a pair sets: 00 neither, 01 the one, 10 the other
abbrev pub sets : AccessPair → ChannelAccessType → Bool
sets Leave kind = false
sets NonVolatile Kind.NonVolatile = true
sets NonVolatile Kind.Volatile = false
sets Volatile Kind.NonVolatile = false
sets Volatile Kind.Volatile = true
sets Reserved kind = false

-- the command's where the pair sets it, "the part marked leave as before"
abbrev pub chosen : AccessPair → ChannelAccessType → ChannelAccess → ChannelAccess → ChannelAccess
chosen pair kind set before = if sets pair kind then set else before

-- mode and disable bits of the first, limit of the second: the parts of bytes 1 and 2
abbrev pub joined : ChannelAccess → ChannelAccess → ChannelAccess
joined m l =
    record {
      access_mode = m.access_mode;
      alerting_disabled = m.alerting_disabled;
      per_msg_auth_disabled = m.per_msg_auth_disabled;
      user_level_auth_disabled = m.user_level_auth_disabled;
      privilege_level_limit = l.privilege_level_limit;
    }

-- one of the two settings, after the command
abbrev pub changed : ChannelAccessType → SetChannelAccess → ChannelAccess → ChannelAccess
changed kind c before = joined (chosen c.mode_pair kind c.access before) (chosen c.limit_pair kind c.access before)

-- "the command applied"; 9 as for bytes 1 and 2, whatever the channel and the settings are
abbrev pub applied : SetChannelAccess → ChannelSettings → Outcome ChannelSettings
applied c settings = do
  parts ← parts_bytes c
  accepted (record {
    non_volatile = changed Kind.NonVolatile c settings.non_volatile;
    volatile = changed Kind.Volatile c settings.volatile;
  })
