-- Get Channel Authentication Capabilities. Document 01, "Capabilities"; IPMI 2.0, Table 22-15.
use Rattle.std.specs.Prelude.{ℕ, ◌+◌, ◌-◌, true, false, not, List, [], ◌∷◌, length, if◌then◌else◌, Option}
use Rattle.auth.specs.Auth.{privileges, privilege_value, best_of}
use Rattle.base.specs.Choice.{◌<?◌}
use Rattle.base.specs.Connection.{channel_of, channel_field}
use Rattle.base.specs.Field.{Array, Bytes, byte, flag, flags}
use Rattle.base.specs.Named.{named, required}
use Rattle.base.specs.Outcome.{Outcome, accepted, refused, ◌>>=◌}
use Rattle.base.specs.Request.{request}
use Rattle.base.specs.declared.connection.Channel.{Channel}
use Rattle.auth.specs.declared.AuthType.{AuthType}
use Rattle.auth.specs.declared.PrivilegeLevel.{PrivilegeLevel}
use Rattle.auth.specs.declared.get_channel_authentication_capabilities.ChannelAuthenticationCapabilities.{ChannelAuthenticationCapabilities}
use Rattle.auth.specs.declared.get_channel_authentication_capabilities.GetChannelAuthenticationCapabilities.{GetChannelAuthenticationCapabilities}

-- The request: byte 0 is the channel, above it bit 7, which asks for the extended answer; byte 1 is the level.

-- a command holds its channel and its level
abbrev pub command : Channel → PrivilegeLevel → GetChannelAuthenticationCapabilities
command channel level = record { channel_number = channel; privilege_level = level }

-- made for a channel that is given as a number
abbrev pub command_for : ℕ → PrivilegeLevel → Outcome GetChannelAuthenticationCapabilities
command_for number level = do
  channel ← channel_of number
  accepted (command channel level)

-- "request 38h, 2 bytes"; 9 for "a command whose channel no number makes"
abbrev pub command_bytes : GetChannelAuthenticationCapabilities → Outcome (List ℕ)
command_bytes c = do
  channel ← channel_field c.channel_number
  accepted ((0x80 + channel) ∷ privilege_value c.privilege_level ∷ [])

-- the channel under bit 7
abbrev pub asked_channel : ℕ → Outcome Channel
asked_channel n = if n <? 0x80 then refused 10 [] else channel_of (n - 0x80)

-- the whole byte names the level
abbrev pub asked_level : ℕ → Outcome PrivilegeLevel
asked_level n = required 10 [] (named privileges n)

-- the request, read: "a request reader turns every fault into 10"
abbrev pub command_of : List ℕ → Outcome GetChannelAuthenticationCapabilities
command_of bytes = request 2 bytes (do
  channel ← asked_channel (byte 0 bytes)
  level ← asked_level (byte 1 bytes)
  accepted (command channel level))

-- The response.

-- what every record of the machine has: its id is three bytes, its other numbers are bytes
pub record Typed (c : ChannelAuthenticationCapabilities) : Type 0 where
  pub id : Array 3 c.oem_id
  pub rest : Bytes (c.channel_number ∷ c.oem_auxiliary_data ∷ [])

-- where bit 7 of byte 1 is clear: "bit 4 set means per-message authentication is NOT enabled, bit 3 the same for user level";
-- "Otherwise those three flags are false, id is bytes 3 to 5, auxiliary byte 6", one byte before the standard's place
abbrev pub plain : List ℕ → ChannelAuthenticationCapabilities
plain r =
    record {
      channel_number = byte 0 r;
      oem_proprietary = flag 5 (byte 1 r);
      key = flag 4 (byte 1 r);
      md5 = flag 2 (byte 1 r);
      md2 = flag 1 (byte 1 r);
      none = flag 0 (byte 1 r);
      kg_status = false;
      per_message_authentication_enabled = not (flag 4 (byte 2 r));
      user_level_authentication_enabled = not (flag 3 (byte 2 r));
      non_null_usernames_enabled = flag 2 (byte 2 r);
      null_usernames_enabled = flag 1 (byte 2 r);
      anonymous_login_enabled = flag 0 (byte 2 r);
      ipmi2_connections_supported = false;
      ipmi15_connections_supported = false;
      oem_id = byte 3 r ∷ byte 4 r ∷ byte 5 r ∷ [];
      oem_auxiliary_data = byte 6 r;
    }

-- "Extended: byte 2 bit 5 is KG status, byte 3 bits 1 and 0 are v2.0 and v1.5 support, bytes 4 to 6 OEM id, 7 auxiliary"; the rest as above
abbrev pub extended : List ℕ → ChannelAuthenticationCapabilities
extended r =
    record (plain r) {
      kg_status = flag 5 (byte 2 r);
      ipmi2_connections_supported = flag 1 (byte 3 r);
      ipmi15_connections_supported = flag 0 (byte 3 r);
      oem_id = byte 4 r ∷ byte 5 r ∷ byte 6 r ∷ [];
      oem_auxiliary_data = byte 7 r;
    }

-- the extended form has a byte more
abbrev pub extended_of : List ℕ → Outcome ChannelAuthenticationCapabilities
extended_of r = if length r <? 8 then refused 1 [] else accepted (extended r)

-- "response at least 7, or 8" where bit 7 of byte 1 is set
abbrev pub capabilities_of : List ℕ → Outcome ChannelAuthenticationCapabilities
capabilities_of r =
    if length r <? 7 then refused 1 [] else
    if flag 7 (byte 1 r) then extended_of r else accepted (plain r)

-- the strongest of the types that the answer offers
abbrev pub best_auth : ChannelAuthenticationCapabilities → Option AuthType
best_auth c = best_of c.key c.md5 c.md2 c.none

-- "always writes the 8-byte form with bit 7 set"
abbrev pub capabilities_bytes : ChannelAuthenticationCapabilities → List ℕ
capabilities_bytes c =
    c.channel_number
    ∷ flags true false c.oem_proprietary c.key false c.md5 c.md2 c.none
    ∷ flags false false c.kg_status (not c.per_message_authentication_enabled) (not c.user_level_authentication_enabled) c.non_null_usernames_enabled c.null_usernames_enabled c.anonymous_login_enabled
    ∷ flags false false false false false false c.ipmi2_connections_supported c.ipmi15_connections_supported
    ∷ byte 0 c.oem_id ∷ byte 1 c.oem_id ∷ byte 2 c.oem_id ∷ c.oem_auxiliary_data ∷ []
