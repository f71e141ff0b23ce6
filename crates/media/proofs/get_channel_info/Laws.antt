-- Laws of the types of Get Channel Info.
use mathlib.Core.Path.{◌≡◌, refl, ap}
use mathlib.Core.Bool.{Bool, true, false}
use Prim.Native.Nat.{ℕ, ◌≤◌, ◌<◌}
use native.Mathlib.Omega.{arith}
use borrow.Author.Tests.{eqb-true, lt-ltb, le-ltb}
use lib.Dec.{eqb, ltb, lit<}
use lib.ListN.{get_or-eq_default}
use Rattle.std.specs.Prelude.{if◌then◌else◌}
use Rattle.base.specs.Choice.{if◌from◌to◌then◌else◌}
use Rattle.base.specs.Field.{within}
use Rattle.base.specs.Outcome.{accepted}
use Rattle.base.proofs.field.Laws.{below, Kept, one, ranging, never, valued}
use Rattle.media.specs.Media.{mediums, medium_field, medium_of, medium_value, protocols, protocol_field, protocol_of, protocol_value, sessions, session_field, session_of, session_value}
use Rattle.media.specs.declared.get_channel_info.ChannelMediumType.{ChannelMediumType}
use Rattle.media.specs.declared.get_channel_info.ChannelMediumType.TheVariants as Medium
use Rattle.media.specs.declared.get_channel_info.ChannelProtocolType.{ChannelProtocolType}
use Rattle.media.specs.declared.get_channel_info.ChannelProtocolType.TheVariants as Protocol
use Rattle.media.specs.declared.get_channel_info.ChannelSessionSupport.{ChannelSessionSupport}
use Rattle.media.specs.declared.get_channel_info.ChannelSessionSupport.TheVariants as Session

-- Numbers past the tables of names.

module _ (n : ℕ) (past : 0x0D ≤ n) where
  medium_other : medium_of n ≡ (if n from 0x60 to 0x7F then Medium.Oem n else Medium.ReservedValue n)
  medium_other = get_or-eq_default mediums _ past

  pub medium_oem : 0x60 ≤ n → n ≤ 0x7F → medium_of n ≡ Medium.Oem n
  medium_oem l h = rw medium_other (simp (le-ltb n 0x60 l, le-ltb 0x7F n h))

  pub medium_low : n < 0x60 → medium_of n ≡ Medium.ReservedValue n
  medium_low h = rw medium_other (simp (lt-ltb n 0x60 h))

module _ (n : ℕ) (past : 0x0A ≤ n) where
  protocol_other : protocol_of n ≡ (if n from 0x1C to 0x1F then Protocol.Oem n else Protocol.ReservedValue n)
  protocol_other = get_or-eq_default protocols _ past

  pub protocol_oem : 0x1C ≤ n → n ≤ 0x1F → protocol_of n ≡ Protocol.Oem n
  protocol_oem l h = rw protocol_other (simp (le-ltb n 0x1C l, le-ltb 0x1F n h))

  pub protocol_low : n < 0x1C → protocol_of n ≡ Protocol.ReservedValue n
  protocol_low h = rw protocol_other (simp (lt-ltb n 0x1C h))

pub session_other : (n : ℕ) → 4 ≤ n → session_of n ≡ Session.Reserved n
session_other n h = get_or-eq_default sessions (Session.Reserved n) h

-- What is read from a number has that number as its value.

-- whichever of two it is that holds the number
either : {A : Type 0} (value : A → ℕ) (n first last : ℕ) (a b : A) → value a ≡ n → value b ≡ n → value (if n from first to last then a else b) ≡ n
either value n first last a b p q = go (ltb n first) (ltb last n)
  where
    go : (x y : Bool) → value (if x then b else if y then b else a) ≡ n
    go true y = q
    go false true = q
    go false false = p

pub medium_value_lem : (n : ℕ) → medium_value (medium_of n) ≡ n
medium_value_lem = valued medium_value medium_of 0x0D refl λ n past. rw (medium_other n past) (either medium_value n 0x60 0x7F (Medium.Oem n) (Medium.ReservedValue n) refl refl)

pub protocol_value_lem : (n : ℕ) → protocol_value (protocol_of n) ≡ n
protocol_value_lem = valued protocol_value protocol_of 0x0A refl λ n past. rw (protocol_other n past) (either protocol_value n 0x1C 0x1F (Protocol.Oem n) (Protocol.ReservedValue n) refl refl)

pub session_value_lem : (n : ℕ) → session_value (session_of n) ≡ n
session_value_lem = valued session_value session_of 4 refl λ n past. ap session_value (session_other n past)

-- A number that is read is written again, and what is written is read again; what has no form in a message is refused by 9.

pub medium_given : (n : ℕ) → n < 0x80 → medium_field (medium_of n) ≡ accepted n
medium_given = below 0x80 (λ n. medium_field (medium_of n)) accepted refl

pub protocol_given : (n : ℕ) → n < 0x20 → protocol_field (protocol_of n) ≡ accepted n
protocol_given = below 0x20 (λ n. protocol_field (protocol_of n)) accepted refl

pub session_given : (n : ℕ) → n < 4 → session_field (session_of n) ≡ accepted n
session_given = below 4 (λ n. session_field (session_of n)) accepted refl

pub medium_kept : (m : ChannelMediumType) → Kept medium_of 0x80 m (medium_field m)
medium_kept Medium.Reserved = one medium_of 0x80 0 (lit< tt) refl
medium_kept Medium.Ipmb = one medium_of 0x80 1 (lit< tt) refl
medium_kept Medium.IcmbV1_0 = one medium_of 0x80 2 (lit< tt) refl
medium_kept Medium.IcmbV0_9 = one medium_of 0x80 3 (lit< tt) refl
medium_kept Medium.Lan802_3 = one medium_of 0x80 4 (lit< tt) refl
medium_kept Medium.AsynchSerialModem = one medium_of 0x80 5 (lit< tt) refl
medium_kept Medium.OtherLan = one medium_of 0x80 6 (lit< tt) refl
medium_kept Medium.PciSmbus = one medium_of 0x80 7 (lit< tt) refl
medium_kept Medium.SmbusV1_0 = one medium_of 0x80 8 (lit< tt) refl
medium_kept Medium.SmbusV2_0 = one medium_of 0x80 9 (lit< tt) refl
medium_kept Medium.Usb1X = one medium_of 0x80 10 (lit< tt) refl
medium_kept Medium.Usb2X = one medium_of 0x80 11 (lit< tt) refl
medium_kept Medium.SystemInterface = one medium_of 0x80 12 (lit< tt) refl
medium_kept (Medium.Oem v) = ranging medium_of 0x80 0x60 0x7F v (lit< tt) λ l h. medium_oem v (omega arith) l h
medium_kept (Medium.ReservedValue v) = ranging medium_of 0x80 0x0D 0x5F v (lit< tt) λ l h. medium_low v l (omega arith)

pub protocol_kept : (m : ChannelProtocolType) → Kept protocol_of 0x20 m (protocol_field m)
protocol_kept Protocol.Reserved = one protocol_of 0x20 0 (lit< tt) refl
protocol_kept Protocol.IpmbV1_0 = one protocol_of 0x20 1 (lit< tt) refl
protocol_kept Protocol.IcmbV1_0 = one protocol_of 0x20 2 (lit< tt) refl
protocol_kept Protocol.IpmiSmbus = one protocol_of 0x20 4 (lit< tt) refl
protocol_kept Protocol.Kcs = one protocol_of 0x20 5 (lit< tt) refl
protocol_kept Protocol.Smic = one protocol_of 0x20 6 (lit< tt) refl
protocol_kept Protocol.Bt10 = one protocol_of 0x20 7 (lit< tt) refl
protocol_kept Protocol.Bt15 = one protocol_of 0x20 8 (lit< tt) refl
protocol_kept Protocol.TerminalMode = one protocol_of 0x20 9 (lit< tt) refl
protocol_kept (Protocol.Oem v) = ranging protocol_of 0x20 0x1C 0x1F v (lit< tt) λ l h. protocol_oem v (omega arith) l h
protocol_kept (Protocol.ReservedValue v) = go (eqb v 3) refl
  where
    go : (x : Bool) → eqb v 3 ≡ x → Kept protocol_of 0x20 (Protocol.ReservedValue v) (if x then accepted 3 else within 0x0A 0x1B v)
    go true p = one protocol_of 0x20 3 (lit< tt) (rw (eqb-true v 3 p))
    go false p = ranging protocol_of 0x20 0x0A 0x1B v (lit< tt) λ l h. protocol_low v l (omega arith)

pub session_kept : (m : ChannelSessionSupport) → Kept session_of 4 m (session_field m)
session_kept Session.Sessionless = one session_of 4 0 (lit< tt) refl
session_kept Session.SingleSession = one session_of 4 1 (lit< tt) refl
session_kept Session.MultiSession = one session_of 4 2 (lit< tt) refl
session_kept Session.SessionBased = one session_of 4 3 (lit< tt) refl
session_kept (Session.Reserved v) = never session_of 4
