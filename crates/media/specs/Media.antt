-- The types of Get Channel Info. Document 01, "Info"; IPMI 2.0, Tables 6-2, 6-3 and 22-29.
use Rattle.std.specs.Prelude.{ℕ, List, [], ◌∷◌, get_or, if◌then◌else◌}
use Rattle.base.specs.Choice.{if◌from◌to◌then◌else◌, ◌=?◌}
use Rattle.base.specs.Field.{within}
use Rattle.base.specs.Outcome.{Outcome, accepted, refused}
use Rattle.base.specs.Text.{ascii, coded}
use Rattle.media.specs.declared.get_channel_info.ChannelMediumType.{ChannelMediumType}
use Rattle.media.specs.declared.get_channel_info.ChannelMediumType.TheVariants as Medium
use Rattle.media.specs.declared.get_channel_info.ChannelProtocolType.{ChannelProtocolType}
use Rattle.media.specs.declared.get_channel_info.ChannelProtocolType.TheVariants as Protocol
use Rattle.media.specs.declared.get_channel_info.ChannelSessionSupport.{ChannelSessionSupport}
use Rattle.media.specs.declared.get_channel_info.ChannelSessionSupport.TheVariants as Session

-- from 0 up, Table 6-3
abbrev pub mediums : List ChannelMediumType
mediums = Medium.Reserved ∷ Medium.Ipmb ∷ Medium.IcmbV1_0 ∷ Medium.IcmbV0_9 ∷ Medium.Lan802_3 ∷ Medium.AsynchSerialModem ∷ Medium.OtherLan ∷ Medium.PciSmbus ∷ Medium.SmbusV1_0 ∷ Medium.SmbusV2_0 ∷ Medium.Usb1X ∷ Medium.Usb2X ∷ Medium.SystemInterface ∷ []

-- "Medium 0x60 to 0x7F is OEM, 0x0D to 0x5F reserved"; the Rust's From<u8> does not mask, and calls reserved what has more than 7 bits
abbrev pub medium_of : ℕ → ChannelMediumType
medium_of n = get_or mediums n (if n from 0x60 to 0x7F then Medium.Oem n else Medium.ReservedValue n)

-- from 0 up, Table 6-2
abbrev pub protocols : List ChannelProtocolType
protocols = Protocol.Reserved ∷ Protocol.IpmbV1_0 ∷ Protocol.IcmbV1_0 ∷ Protocol.ReservedValue 3 ∷ Protocol.IpmiSmbus ∷ Protocol.Kcs ∷ Protocol.Smic ∷ Protocol.Bt10 ∷ Protocol.Bt15 ∷ Protocol.TerminalMode ∷ []

-- "protocol 0x1C to 0x1F OEM, 3 and 0x0A to 0x1B reserved"
abbrev pub protocol_of : ℕ → ChannelProtocolType
protocol_of n = get_or protocols n (if n from 0x1C to 0x1F then Protocol.Oem n else Protocol.ReservedValue n)

-- from 0 up
abbrev pub sessions : List ChannelSessionSupport
sessions = Session.Sessionless ∷ Session.SingleSession ∷ Session.MultiSession ∷ Session.SessionBased ∷ []

-- two bits: each of the four has a name, Table 22-29
abbrev pub session_of : ℕ → ChannelSessionSupport
session_of n = get_or sessions n (Session.Reserved n)

-- the number of each: an OEM or reserved one's is the number that it holds, "keeps its number inside the channel record"

-- of a medium, by Table 6-3
abbrev pub medium_value : ChannelMediumType → ℕ
medium_value Medium.Reserved = 0
medium_value Medium.Ipmb = 1
medium_value Medium.IcmbV1_0 = 2
medium_value Medium.IcmbV0_9 = 3
medium_value Medium.Lan802_3 = 4
medium_value Medium.AsynchSerialModem = 5
medium_value Medium.OtherLan = 6
medium_value Medium.PciSmbus = 7
medium_value Medium.SmbusV1_0 = 8
medium_value Medium.SmbusV2_0 = 9
medium_value Medium.Usb1X = 10
medium_value Medium.Usb2X = 11
medium_value Medium.SystemInterface = 12
medium_value (Medium.Oem n) = n
medium_value (Medium.ReservedValue n) = n

-- of a protocol, by Table 6-2
abbrev pub protocol_value : ChannelProtocolType → ℕ
protocol_value Protocol.Reserved = 0
protocol_value Protocol.IpmbV1_0 = 1
protocol_value Protocol.IcmbV1_0 = 2
protocol_value Protocol.IpmiSmbus = 4
protocol_value Protocol.Kcs = 5
protocol_value Protocol.Smic = 6
protocol_value Protocol.Bt10 = 7
protocol_value Protocol.Bt15 = 8
protocol_value Protocol.TerminalMode = 9
protocol_value (Protocol.Oem n) = n
protocol_value (Protocol.ReservedValue n) = n

-- of session support, by Table 22-29
abbrev pub session_value : ChannelSessionSupport → ℕ
session_value Session.Sessionless = 0
session_value Session.SingleSession = 1
session_value Session.MultiSession = 2
session_value Session.SessionBased = 3
session_value (Session.Reserved n) = n

-- what the field of a message has for each: 9 where no reading of the field gives it

-- of a medium
abbrev pub medium_field : ChannelMediumType → Outcome ℕ
medium_field Medium.Reserved = accepted (medium_value Medium.Reserved)
medium_field Medium.Ipmb = accepted (medium_value Medium.Ipmb)
medium_field Medium.IcmbV1_0 = accepted (medium_value Medium.IcmbV1_0)
medium_field Medium.IcmbV0_9 = accepted (medium_value Medium.IcmbV0_9)
medium_field Medium.Lan802_3 = accepted (medium_value Medium.Lan802_3)
medium_field Medium.AsynchSerialModem = accepted (medium_value Medium.AsynchSerialModem)
medium_field Medium.OtherLan = accepted (medium_value Medium.OtherLan)
medium_field Medium.PciSmbus = accepted (medium_value Medium.PciSmbus)
medium_field Medium.SmbusV1_0 = accepted (medium_value Medium.SmbusV1_0)
medium_field Medium.SmbusV2_0 = accepted (medium_value Medium.SmbusV2_0)
medium_field Medium.Usb1X = accepted (medium_value Medium.Usb1X)
medium_field Medium.Usb2X = accepted (medium_value Medium.Usb2X)
medium_field Medium.SystemInterface = accepted (medium_value Medium.SystemInterface)
medium_field (Medium.Oem n) = within 0x60 0x7F n
medium_field (Medium.ReservedValue n) = within 0x0D 0x5F n

-- of a protocol
abbrev pub protocol_field : ChannelProtocolType → Outcome ℕ
protocol_field Protocol.Reserved = accepted (protocol_value Protocol.Reserved)
protocol_field Protocol.IpmbV1_0 = accepted (protocol_value Protocol.IpmbV1_0)
protocol_field Protocol.IcmbV1_0 = accepted (protocol_value Protocol.IcmbV1_0)
protocol_field Protocol.IpmiSmbus = accepted (protocol_value Protocol.IpmiSmbus)
protocol_field Protocol.Kcs = accepted (protocol_value Protocol.Kcs)
protocol_field Protocol.Smic = accepted (protocol_value Protocol.Smic)
protocol_field Protocol.Bt10 = accepted (protocol_value Protocol.Bt10)
protocol_field Protocol.Bt15 = accepted (protocol_value Protocol.Bt15)
protocol_field Protocol.TerminalMode = accepted (protocol_value Protocol.TerminalMode)
protocol_field (Protocol.Oem n) = within 0x1C 0x1F n
protocol_field (Protocol.ReservedValue n) = if n =? 3 then accepted 3 else within 0x0A 0x1B n

-- of session support
abbrev pub session_field : ChannelSessionSupport → Outcome ℕ
session_field Session.Sessionless = accepted (session_value Session.Sessionless)
session_field Session.SingleSession = accepted (session_value Session.SingleSession)
session_field Session.MultiSession = accepted (session_value Session.MultiSession)
session_field Session.SessionBased = accepted (session_value Session.SessionBased)
session_field (Session.Reserved n) = refused 9 []

-- the Rust's Display
abbrev pub medium_text : ChannelMediumType → List ℕ
medium_text Medium.Reserved = ascii "Reserved"
medium_text Medium.Ipmb = ascii "IPMB (I2C)"
medium_text Medium.IcmbV1_0 = ascii "ICMB v1.0"
medium_text Medium.IcmbV0_9 = ascii "ICMB v0.9"
medium_text Medium.Lan802_3 = ascii "802.3 LAN"
medium_text Medium.AsynchSerialModem = ascii "Asynchronous Serial/Modem"
medium_text Medium.OtherLan = ascii "Other LAN"
medium_text Medium.PciSmbus = ascii "PCI SMBus"
medium_text Medium.SmbusV1_0 = ascii "SMBus v1.0/1.1"
medium_text Medium.SmbusV2_0 = ascii "SMBus v2.0"
medium_text Medium.Usb1X = ascii "USB 1.x (reserved)"
medium_text Medium.Usb2X = ascii "USB 2.x (reserved)"
medium_text Medium.SystemInterface = ascii "System Interface"
medium_text (Medium.Oem n) = coded (ascii "OEM") n
medium_text (Medium.ReservedValue n) = coded (ascii "Reserved") n

-- the Rust's Display
abbrev pub protocol_text : ChannelProtocolType → List ℕ
protocol_text Protocol.Reserved = ascii "Reserved"
protocol_text Protocol.IpmbV1_0 = ascii "IPMB-1.0"
protocol_text Protocol.IcmbV1_0 = ascii "ICMB-1.0"
protocol_text Protocol.IpmiSmbus = ascii "IPMI-SMBus"
protocol_text Protocol.Kcs = ascii "KCS"
protocol_text Protocol.Smic = ascii "SMIC"
protocol_text Protocol.Bt10 = ascii "BT-10"
protocol_text Protocol.Bt15 = ascii "BT-15"
protocol_text Protocol.TerminalMode = ascii "Terminal Mode"
protocol_text (Protocol.Oem n) = coded (ascii "OEM") n
protocol_text (Protocol.ReservedValue n) = coded (ascii "Reserved") n

-- the Rust's Display
abbrev pub session_text : ChannelSessionSupport → List ℕ
session_text Session.Sessionless = ascii "Session-less"
session_text Session.SingleSession = ascii "Single-session"
session_text Session.MultiSession = ascii "Multi-session"
session_text Session.SessionBased = ascii "Session-based"
session_text (Session.Reserved n) = coded (ascii "Reserved") n
