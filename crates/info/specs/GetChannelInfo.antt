-- Get Channel Info. Document 01, "Info"; IPMI 2.0, Table 22-29.
use Rattle.std.specs.Prelude.{ℕ, ◌+◌, ◌*◌, ◌^◌, List, [], ◌∷◌, ◌++◌, length, if◌then◌else◌}
use Rattle.base.specs.Choice.{◌<?◌}
use Rattle.base.specs.Connection.{channel_of, channel_field}
use Rattle.base.specs.Field.{Bytes, byte, bits, within}
use Rattle.base.specs.Little.{little, little_bytes}
use Rattle.base.specs.Outcome.{Outcome, accepted, refused, ◌>>=◌, faults_as}
use Rattle.base.specs.Request.{request}
use Rattle.base.specs.declared.connection.Channel.{Channel}
use Rattle.media.specs.Media.{medium_field, medium_of, protocol_field, protocol_of, session_field, session_of}
use Rattle.info.specs.declared.get_channel_info.ChannelInfo.{ChannelInfo}
use Rattle.info.specs.declared.get_channel_info.GetChannelInfo.{GetChannelInfo}

-- The request: one byte, the channel.

-- a command holds its channel
abbrev pub command : Channel → GetChannelInfo
command channel = record { channel = channel }

-- made for a channel that is given as a number
abbrev pub command_for : ℕ → Outcome GetChannelInfo
command_for number = do
  channel ← channel_of number
  accepted (command channel)

-- "request 42h, 1 byte"; 9 for "a command whose channel no number makes"
abbrev pub command_bytes : GetChannelInfo → Outcome (List ℕ)
command_bytes c = do
  channel ← channel_field c.channel
  accepted (channel ∷ [])

-- the same, read: "a request reader turns every fault into 10"
abbrev pub command_of : List ℕ → Outcome GetChannelInfo
command_of bytes = request 1 bytes (do
  channel ← channel_of (byte 0 bytes)
  accepted (command channel))

-- The response.

-- what every record of the machine has: its auxiliary bytes are bytes
abbrev pub Typed : ChannelInfo → Type 0
Typed i = Bytes (i.aux_info.byte1 ∷ i.aux_info.byte2 ∷ [])

-- the fields of the response, but for the channel
abbrev pub info_fields : List ℕ → Channel → ChannelInfo
info_fields response channel =
    record {
      channel = channel;
      medium_type = medium_of (bits 0 7 (byte 1 response));
      protocol_type = protocol_of (bits 0 5 (byte 2 response));
      session_support = session_of (bits 6 2 (byte 3 response));
      active_sessions = bits 0 6 (byte 3 response);
      vendor_id = little (byte 4 response ∷ byte 5 response ∷ byte 6 response ∷ []);
      aux_info = record { byte1 = byte 7 response; byte2 = byte 8 response };
    }

-- "channel info turns a bad channel into 1"
abbrev pub info_of : List ℕ → Outcome ChannelInfo
info_of response =
    if length response <? 9 then refused 1 [] else faults_as 1 (do
      channel ← channel_of (bits 0 4 (byte 0 response))
      accepted (info_fields response channel))

-- session support stands in the top two bits, above the active sessions
abbrev pub info_bytes : ChannelInfo → Outcome (List ℕ)
info_bytes i = do
  channel ← channel_field i.channel
  medium ← medium_field i.medium_type
  protocol ← protocol_field i.protocol_type
  session ← session_field i.session_support
  active ← within 0 0x3F i.active_sessions
  vendor ← within 0 0xFFFFFF i.vendor_id
  accepted (channel ∷ medium ∷ protocol ∷ (session * 2 ^ 6 + active) ∷ little_bytes 3 vendor ++ i.aux_info.byte1 ∷ i.aux_info.byte2 ∷ [])
