-- How long each piece of a text is at most.
use mathlib.Core.Bool.{Bool, true, false}
use mathlib.Core.List.{[], ◌∷◌, ◌++◌}
use Prim.Native.Nat.{◌≤◌}
use native.Mathlib.Omega.{arith}
use lib.Dec.{ltb}
use lib.ListN.{length}
use Rattle.auth.specs.Auth.{auth_type_name}
use Rattle.auth.specs.declared.AuthType.{AuthType}
use Rattle.auth.specs.declared.AuthType.TheVariants.{None, MD2, MD5, Key}
use Rattle.std.specs.Prelude.{if◌then◌else◌}
use Rattle.base.specs.Connection.{channel_text}
use Rattle.base.specs.Text.{ascii, digit, hex2}
use Rattle.base.specs.declared.connection.Channel.{Channel}
use Rattle.base.specs.declared.connection.Channel.TheVariants.{Primary, Numbered, Current, System}
use Rattle.access.specs.GetChannelAccess.{limit_text, mode_text}
use Rattle.access.specs.declared.get_channel_access.ChannelAccessMode.{ChannelAccessMode}
use Rattle.access.specs.declared.get_channel_access.ChannelAccessMode.TheVariants as Mode
use Rattle.access.specs.declared.get_channel_access.ChannelPrivilegeLevel.{ChannelPrivilegeLevel}
use Rattle.access.specs.declared.get_channel_access.ChannelPrivilegeLevel.TheVariants as Level
use Rattle.media.specs.Media.{medium_text, protocol_text, session_text}
use Rattle.media.specs.declared.get_channel_info.ChannelMediumType.{ChannelMediumType}
use Rattle.media.specs.declared.get_channel_info.ChannelMediumType.TheVariants as Medium
use Rattle.media.specs.declared.get_channel_info.ChannelProtocolType.{ChannelProtocolType}
use Rattle.media.specs.declared.get_channel_info.ChannelProtocolType.TheVariants as Protocol
use Rattle.media.specs.declared.get_channel_info.ChannelSessionSupport.{ChannelSessionSupport}
use Rattle.media.specs.declared.get_channel_info.ChannelSessionSupport.TheVariants as Session

pub channel_fits : (c : Channel) → length (channel_text c) ≤ 15
channel_fits Primary = omega arith
channel_fits (Numbered n) = go (ltb n.0 16)
  where
    go : (b : Bool) → length (ascii "Channel 0x" ++ (if b then digit n.0 ∷ [] else hex2 n.0)) ≤ 15
    go true = omega arith
    go false = omega arith
channel_fits Current = omega arith
channel_fits System = omega arith

pub medium_fits : (x : ChannelMediumType) → length (medium_text x) ≤ 25
medium_fits Medium.Reserved = omega arith
medium_fits Medium.Ipmb = omega arith
medium_fits Medium.IcmbV1_0 = omega arith
medium_fits Medium.IcmbV0_9 = omega arith
medium_fits Medium.Lan802_3 = omega arith
medium_fits Medium.AsynchSerialModem = omega arith
medium_fits Medium.OtherLan = omega arith
medium_fits Medium.PciSmbus = omega arith
medium_fits Medium.SmbusV1_0 = omega arith
medium_fits Medium.SmbusV2_0 = omega arith
medium_fits Medium.Usb1X = omega arith
medium_fits Medium.Usb2X = omega arith
medium_fits Medium.SystemInterface = omega arith
medium_fits (Medium.Oem n) = omega arith
medium_fits (Medium.ReservedValue n) = omega arith

pub protocol_fits : (x : ChannelProtocolType) → length (protocol_text x) ≤ 15
protocol_fits Protocol.Reserved = omega arith
protocol_fits Protocol.IpmbV1_0 = omega arith
protocol_fits Protocol.IcmbV1_0 = omega arith
protocol_fits Protocol.IpmiSmbus = omega arith
protocol_fits Protocol.Kcs = omega arith
protocol_fits Protocol.Smic = omega arith
protocol_fits Protocol.Bt10 = omega arith
protocol_fits Protocol.Bt15 = omega arith
protocol_fits Protocol.TerminalMode = omega arith
protocol_fits (Protocol.Oem n) = omega arith
protocol_fits (Protocol.ReservedValue n) = omega arith

pub session_fits : (x : ChannelSessionSupport) → length (session_text x) ≤ 15
session_fits Session.Sessionless = omega arith
session_fits Session.SingleSession = omega arith
session_fits Session.MultiSession = omega arith
session_fits Session.SessionBased = omega arith
session_fits (Session.Reserved n) = omega arith

pub mode_fits : (x : ChannelAccessMode) → length (mode_text x) ≤ 16
mode_fits Mode.Disabled = omega arith
mode_fits Mode.PreBootOnly = omega arith
mode_fits Mode.AlwaysAvailable = omega arith
mode_fits Mode.Shared = omega arith
mode_fits (Mode.Unknown n) = omega arith

pub limit_fits : (x : ChannelPrivilegeLevel) → length (limit_text x) ≤ 14
limit_fits Level.Reserved = omega arith
limit_fits Level.Callback = omega arith
limit_fits Level.User = omega arith
limit_fits Level.Operator = omega arith
limit_fits Level.Administrator = omega arith
limit_fits Level.Oem = omega arith
limit_fits (Level.Unknown n) = omega arith

pub name_fits : (x : AuthType) → length (auth_type_name x) ≤ 4
name_fits None = omega arith
name_fits MD2 = omega arith
name_fits MD5 = omega arith
name_fits Key = omega arith
