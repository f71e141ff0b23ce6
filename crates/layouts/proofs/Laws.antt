-- Laws of the layouts: what C is given is what was read, and what C gives comes back as it was.
use mathlib.Core.Bool.{Bool, true, false}
use mathlib.Core.List.{List, [], ◌∷◌, ◌++◌}
use mathlib.Core.Path.{◌≡◌, refl, ap}
use mir.Val.{bool_byte}
use Prim.Native.Nat.{ℕ, ◌+◌}
use lib.Dec.{ltb, lit<}
use lib.ListN.{length, drop}
use lib.Seq.{get_or-drop}
use Rattle.std.specs.Prelude.{if◌then◌else◌}
use Rattle.base.specs.Connection.{channel_field, channel_of}
use Rattle.base.specs.Field.{Bytes, byte, bits}
use Rattle.base.specs.Little.{little, little_bytes}
use Rattle.base.specs.Outcome.{Outcome, accepted, refused, ◌>>=◌, faults_as}
use Rattle.base.specs.declared.connection.Channel.{Channel}
use Rattle.base.proofs.Outcome.{apart, steps}
use Rattle.base.proofs.connection.Laws.{channel_iff, value_new}
use Rattle.base.proofs.little.Laws.{a_byte, bytes_back}
use Rattle.access.specs.GetChannelAccess.{access_bytes, access_fields, access_of, limit_field, mode_field}
use Rattle.access.specs.declared.get_channel_access.ChannelAccess.{ChannelAccess}
use Rattle.access.proofs.get_channel_access.Laws.{first, limit_kept, limit_field_lem, limit_value_lem, mode_kept, mode_field_lem, mode_value_lem}
use Rattle.info.specs.GetChannelInfo.{info_fields, info_of}
use Rattle.info.specs.declared.get_channel_info.ChannelInfo.{ChannelInfo}
use Rattle.media.proofs.get_channel_info.Laws.{medium_value_lem, protocol_value_lem, session_value_lem}
use Rattle.set_access.specs.SetChannelAccess.{command_bytes, command_for, pair_of, parts_bytes}
use Rattle.set_access.specs.declared.set_channel_access.SetChannelAccess.{SetChannelAccess}
use Rattle.set_access.proofs.set_channel_access.Laws.{is_bit, pair_kept, pair_field_lem, parts_are}
use Rattle.layouts.specs.Layouts.{access_layout, access_record, info_layout, is_set, set_access_layout, settings_layout, settings_record}

-- From a response: each byte of the record is the response's own bits.

pub access_laid : (s : List ℕ) (a : ChannelAccess) → access_of s ≡ accepted a
    → access_layout a ≡ bits 0 3 (byte 0 s) ∷ bits 5 1 (byte 0 s) ∷ bits 4 1 (byte 0 s) ∷ bits 3 1 (byte 0 s) ∷ bits 0 4 (byte 1 s) ∷ []
access_laid s a e = go (ltb (length s) 2) e
  where
    go : (x : Bool) → (if x then refused 1 [] else accepted (access_fields (byte 0 s) (byte 1 s))) ≡ accepted a
        → access_layout a ≡ bits 0 3 (byte 0 s) ∷ bits 5 1 (byte 0 s) ∷ bits 4 1 (byte 0 s) ∷ bits 3 1 (byte 0 s) ∷ bits 0 4 (byte 1 s) ∷ []
    go true e = absurd (apart e)
    go false e =
        let z : access_fields (byte 0 s) (byte 1 s) ≡ a = cc in
        rw (← z) (simp (mode_value_lem, limit_value_lem, is_bit))

pub info_laid : (s : List ℕ) (i : ChannelInfo) → Bytes s → info_of s ≡ accepted i
    → info_layout i ≡ bits 0 4 (byte 0 s) ∷ bits 0 7 (byte 1 s) ∷ bits 0 5 (byte 2 s) ∷ bits 6 2 (byte 3 s) ∷ bits 0 6 (byte 3 s) ∷ byte 4 s ∷ byte 5 s ∷ byte 6 s ∷ 0 ∷ byte 7 s ∷ byte 8 s ∷ []
info_laid s i b e = go (ltb (length s) 9) (channel_of (bits 0 4 (byte 0 s))) refl e
  where
    vendor : little_bytes 4 (little (byte 4 s ∷ byte 5 s ∷ byte 6 s ∷ [])) ≡ byte 4 s ∷ byte 5 s ∷ byte 6 s ∷ 0 ∷ []
    vendor = bytes_back (byte 4 s ∷ byte 5 s ∷ byte 6 s ∷ 0 ∷ []) (a_byte s b 4, (a_byte s b 5, (a_byte s b 6, (lit< tt, tt))))

    go : (x : Bool) (y : Outcome Channel) → channel_of (bits 0 4 (byte 0 s)) ≡ y → (if x then refused 1 [] else faults_as 1 (y >>= λ c. accepted (info_fields s c))) ≡ accepted i
        → info_layout i ≡ bits 0 4 (byte 0 s) ∷ bits 0 7 (byte 1 s) ∷ bits 0 5 (byte 2 s) ∷ bits 6 2 (byte 3 s) ∷ bits 0 6 (byte 3 s) ∷ byte 4 s ∷ byte 5 s ∷ byte 6 s ∷ 0 ∷ byte 7 s ∷ byte 8 s ∷ []
    go true y p e = absurd (apart e)
    go false (refused n v) p e = absurd (apart e)
    go false (accepted c) p e =
        let z : info_fields s c ≡ i = cc in
        rw (← z, value_new (bits 0 4 (byte 0 s)) c p, medium_value_lem (bits 0 7 (byte 1 s)), protocol_value_lem (bits 0 5 (byte 2 s)), session_value_lem (bits 6 2 (byte 3 s)))
        (ap (λ (v : List ℕ). bits 0 4 (byte 0 s) ∷ bits 0 7 (byte 1 s) ∷ bits 0 5 (byte 2 s) ∷ bits 6 2 (byte 3 s) ∷ bits 0 6 (byte 3 s) ∷ v ++ byte 7 s ∷ byte 8 s ∷ []) vendor)

-- An access that a message can have is the record of its layout.

flag_back : (b : Bool) → is_set (bool_byte b) ≡ b
flag_back true = refl
flag_back false = refl

abbrev two : ChannelAccess → ℕ → ℕ → List ℕ
two a mode limit = first mode a.user_level_auth_disabled a.per_msg_auth_disabled a.alerting_disabled ∷ limit ∷ []

pub access_record_back : (a : ChannelAccess) (s : List ℕ) → access_bytes a ≡ accepted s → access_record (access_layout a) ≡ a
access_record_back a s e =
    let (m, em, f) = steps (mode_field a.access_mode) (λ m. limit_field a.privilege_level_limit >>= λ l. accepted (two a m l)) e in
    let (l, el, g) = steps (limit_field a.privilege_level_limit) (λ l. accepted (two a m l)) f in
    rw (mode_field_lem a.access_mode m em, limit_field_lem a.privilege_level_limit l el)
    (simp (((mode_kept a.access_mode).1 m em).1, ((limit_kept a.privilege_level_limit).1 l el).1, flag_back))

-- A command that has a request is the one that its layout's numbers make.
pub set_access_back : (k : SetChannelAccess) (s : List ℕ) → command_bytes k ≡ accepted s
    → command_for (byte 0 (set_access_layout k)) (pair_of (byte 1 (set_access_layout k))) (pair_of (byte 2 (set_access_layout k))) (access_record (drop 3 (set_access_layout k))) ≡ accepted k
set_access_back k s e =
    let (n, en, f) = steps (channel_field k.channel) (λ n. parts_bytes k >>= λ p. accepted (n ∷ p)) e in
    let (p, ep, g) = steps (parts_bytes k) (λ p. accepted (n ∷ p)) f in
    let (m, l, t, em, el, et, h) = parts_are k p ep in
    let c = (channel_iff n k.channel).1 en in
    rw (value_new n k.channel c, pair_field_lem k.mode_pair m em, pair_field_lem k.limit_pair l el)
    (rw (c, ((pair_kept k.mode_pair).1 m em).1, ((pair_kept k.limit_pair).1 l el).1, access_record_back k.access t et))

-- What C gives: the bytes of an access record, each flag as 0 or 1, are the layout of what they make.

-- five bytes from byte `at` on, each flag as 0 or 1
abbrev pub flagged : ℕ → List ℕ → List ℕ
flagged at s = byte at s ∷ bool_byte (is_set (byte (at + 1) s)) ∷ bool_byte (is_set (byte (at + 2) s)) ∷ bool_byte (is_set (byte (at + 3) s)) ∷ byte (at + 4) s ∷ []

pub record_laid : (s : List ℕ) → access_layout (access_record s) ≡ flagged 0 s
record_laid s = simp (mode_value_lem, limit_value_lem)

pub settings_back : (s : List ℕ) → settings_layout (settings_record s) ≡ flagged 0 s ++ flagged 5 s
settings_back s = simp (mode_value_lem, limit_value_lem, get_or-drop)
