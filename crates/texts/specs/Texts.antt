-- The texts of chandump's answers. Document 01, "chandump": "Counts and numbers are decimal but for Display texts and the auxiliary bytes".
use Rattle.std.specs.Prelude.{ℕ, Bool, List, [], ◌∷◌, ◌++◌, if◌then◌else◌, Option, Some, None}
use Rattle.auth.specs.Auth.{auth_type_name}
use Rattle.auth.specs.declared.AuthType.{AuthType}
use Rattle.base.specs.Connection.{channel_text}
use Rattle.base.specs.Text.{ascii, hex2}
use Rattle.access.specs.GetChannelAccess.{limit_text, mode_text}
use Rattle.access.specs.declared.get_channel_access.ChannelAccess.{ChannelAccess}
use Rattle.media.specs.Media.{medium_text, protocol_text, session_text}
use Rattle.info.specs.declared.get_channel_info.ChannelInfo.{ChannelInfo}
use Rattle.lines.specs.Lines.{decimal, space}

-- the line that answers `inf`
unfoldable pub info_text : ChannelInfo → List ℕ
info_text i =
    (ascii "info " ++ channel_text i.channel ++ ascii ", " ++ medium_text i.medium_type)
    ++ (ascii ", " ++ protocol_text i.protocol_type ++ ascii ", " ++ session_text i.session_support)
    ++ (ascii ", " ++ decimal i.active_sessions ++ ascii " active, vendor " ++ decimal i.vendor_id)
    ++ (ascii ", aux " ++ hex2 i.aux_info.byte1 ++ ascii " " ++ hex2 i.aux_info.byte2)

-- off where it is DISABLED
abbrev pub state_text : Bool → List ℕ
state_text disabled = if disabled then ascii "off" else ascii "on"

-- the line that answers `acc`
unfoldable pub access_text : ChannelAccess → List ℕ
access_text a =
    ascii "access " ++ mode_text a.access_mode
    ++ ((ascii ", alerting " ++ state_text a.alerting_disabled)
    ++ (ascii ", per-message " ++ state_text a.per_msg_auth_disabled)
    ++ (ascii ", user-level " ++ state_text a.user_level_auth_disabled))
    ++ ascii ", limit " ++ limit_text a.privilege_level_limit

-- "`cap` prints the crate's AuthType name or `-`"
abbrev pub name_or : Option AuthType → List ℕ
name_or (Some kind) = auth_type_name kind
name_or None = ascii "-"

-- the line that answers `cap`
unfoldable pub auth_text : Option AuthType → List ℕ
auth_text best = ascii "auth " ++ name_or best

-- an accepted part of the list: its index, and how many bytes it has
unfoldable pub block_text : ℕ → ℕ → List ℕ
block_text index n = ascii "block " ++ decimal index ++ ascii ", " ++ decimal n ++ ascii " bytes"

-- numbers in decimal, a space before each
unfoldable pub spaced : List ℕ → List ℕ
spaced [] = []
spaced (n ∷ numbers) = (space ∷ decimal n) ++ spaced numbers

-- "suite numbers stand one space apart, an empty list prints `suites`"
unfoldable pub suites_text : List ℕ → List ℕ
suites_text numbers = ascii "suites" ++ spaced numbers

-- "Refusals print `refused N`"
unfoldable pub refused_text : ℕ → List ℕ
refused_text n = ascii "refused " ++ decimal n

-- "an incomplete `end` prints `missing N`"
unfoldable pub missing_text : ℕ → List ℕ
missing_text n = ascii "missing " ++ decimal n
