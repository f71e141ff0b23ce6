-- Records as bytes: include/ghjalvestru.h has the layouts.
use Rattle.std.specs.Prelude.{ℕ, Bool, not, List, [], ◌∷◌, ◌++◌, drop}
use mir.Val.{bool_byte}
use Rattle.auth.specs.declared.get_channel_authentication_capabilities.ChannelAuthenticationCapabilities.{ChannelAuthenticationCapabilities}
use Rattle.base.specs.Choice.{◌=?◌}
use Rattle.base.specs.Connection.{value_of}
use Rattle.base.specs.Field.{byte}
use Rattle.base.specs.Little.{little_bytes}
use Rattle.access.specs.GetChannelAccess.{limit_of, limit_value, mode_of, mode_value}
use Rattle.access.specs.declared.get_channel_access.ChannelAccess.{ChannelAccess}
use Rattle.set_access.specs.SetChannelAccess.{pair_value}
use Rattle.set_access.specs.declared.set_channel_access.ChannelSettings.{ChannelSettings}
use Rattle.set_access.specs.declared.set_channel_access.SetChannelAccess.{SetChannelAccess}
use Rattle.media.specs.Media.{medium_value, protocol_value, session_value}
use Rattle.info.specs.declared.get_channel_info.ChannelInfo.{ChannelInfo}

-- mode; alerting, per-message and user-level authentication DISABLED, 0 or 1 each; limit
abbrev pub access_layout : ChannelAccess → List ℕ
access_layout a = mode_value a.access_mode ∷ bool_byte a.alerting_disabled ∷ bool_byte a.per_msg_auth_disabled ∷ bool_byte a.user_level_auth_disabled ∷ limit_value a.privilege_level_limit ∷ []

-- a flag that C gives: any number but 0 sets it
abbrev pub is_set : ℕ → Bool
is_set n = not (n =? 0)

-- the access record back, of any five bytes: mode; what is DISABLED; limit. Mode and limit count whole
abbrev pub access_record : List ℕ → ChannelAccess
access_record s =
    record {
      access_mode = mode_of (byte 0 s);
      alerting_disabled = is_set (byte 1 s);
      per_msg_auth_disabled = is_set (byte 2 s);
      user_level_auth_disabled = is_set (byte 3 s);
      privilege_level_limit = limit_of (byte 4 s);
    }

-- channel; the pairs of mode and limit, "00 leave, 01 set non-volatile, 10 set volatile"; the access record
abbrev pub set_access_layout : SetChannelAccess → List ℕ
set_access_layout c = value_of c.channel ∷ pair_value c.mode_pair ∷ pair_value c.limit_pair ∷ access_layout c.access

-- "one channel's two settings": the record of the non-volatile ones, then that of the volatile ones
abbrev pub settings_layout : ChannelSettings → List ℕ
settings_layout s = access_layout s.non_volatile ++ access_layout s.volatile

-- the settings back, of any ten bytes
abbrev pub settings_record : List ℕ → ChannelSettings
settings_record bytes = record { non_volatile = access_record bytes; volatile = access_record (drop 5 bytes) }

-- channel; medium; protocol; session support; active sessions; vendor, four bytes, low first; two auxiliary bytes
abbrev pub info_layout : ChannelInfo → List ℕ
info_layout i =
    value_of i.channel ∷ medium_value i.medium_type ∷ protocol_value i.protocol_type ∷ session_value i.session_support ∷ i.active_sessions
    ∷ little_bytes 4 i.vendor_id ++ i.aux_info.byte1 ∷ i.aux_info.byte2 ∷ []

-- channel; OEM, Key, MD5, MD2, none; KG status, per-message, user-level, non-null names, null names, anonymous; v2.0, v1.5; OEM id, three bytes; auxiliary
abbrev pub capabilities_layout : ChannelAuthenticationCapabilities → List ℕ
capabilities_layout c =
    c.channel_number
    ∷ bool_byte c.oem_proprietary ∷ bool_byte c.key ∷ bool_byte c.md5 ∷ bool_byte c.md2 ∷ bool_byte c.none
    ∷ bool_byte c.kg_status ∷ bool_byte c.per_message_authentication_enabled ∷ bool_byte c.user_level_authentication_enabled
    ∷ bool_byte c.non_null_usernames_enabled ∷ bool_byte c.null_usernames_enabled ∷ bool_byte c.anonymous_login_enabled
    ∷ bool_byte c.ipmi2_connections_supported ∷ bool_byte c.ipmi15_connections_supported
    ∷ byte 0 c.oem_id ∷ byte 1 c.oem_id ∷ byte 2 c.oem_id ∷ c.oem_auxiliary_data ∷ []
