-- Laws of Get Channel Info.
use mathlib.Core.Logic.{◌↔◌}
use mathlib.Core.Path.{◌≡◌, refl}
use mathlib.Core.List.{List, [], ◌∷◌, ◌++◌}
use Prim.Native.Nat.{ℕ, ◌+◌, ◌*◌, ◌≤◌}
use native.Mathlib.Omega.{arith}
use lib.Dec.{ltb}
use lib.ListN.{length}
use Rattle.base.specs.Connection.{channel_of, channel_field}
use Rattle.base.specs.Field.{Bytes, bits, byte, within}
use Rattle.base.specs.Little.{little, little_bytes}
use Rattle.base.specs.Outcome.{Outcome, accepted, refused, ◌>>=◌}
use Rattle.base.specs.declared.connection.Channel.{Channel}
use Rattle.base.proofs.Outcome.{apart, otherwise, steps, Only, only_steps, inside, ranged, only_ranged}
use Rattle.base.proofs.Rows.{NoForm, nine, Strict, strict}
use Rattle.base.proofs.connection.Laws.{channel_iff, channel_small, begins_only, no_channel_form}
use Rattle.base.proofs.field.Laws.{so_long}
use Rattle.base.proofs.little.Laws.{a_byte, bytes_are, number_back}
use Rattle.media.specs.Media.{medium_field, protocol_field, session_field}
use Rattle.media.proofs.get_channel_info.Laws.{medium_given, medium_kept, protocol_given, protocol_kept, session_given, session_kept}
use Rattle.info.specs.GetChannelInfo.{Typed, command, command_bytes, command_of, info_bytes, info_fields, info_of}
use Rattle.info.specs.declared.get_channel_info.ChannelInfo.{ChannelInfo}
use Rattle.info.specs.declared.get_channel_info.GetChannelInfo.{GetChannelInfo}

-- What the writer writes.

abbrev packed : ChannelInfo → ℕ → ℕ → ℕ → ℕ → List ℕ
packed i channel medium protocol session =
    channel ∷ medium ∷ protocol ∷ (session * 64 + i.active_sessions) ∷ little_bytes 3 i.vendor_id ++ i.aux_info.byte1 ∷ i.aux_info.byte2 ∷ []

record Packed (i : ChannelInfo) (s : List ℕ) : Type 0 where
  channel : ℕ
  medium : ℕ
  protocol : ℕ
  session : ℕ
  channel_is : channel_field i.channel ≡ accepted channel
  medium_is : medium_field i.medium_type ≡ accepted medium
  protocol_is : protocol_field i.protocol_type ≡ accepted protocol
  session_is : session_field i.session_support ≡ accepted session
  active : i.active_sessions ≤ 0x3F
  vendor : i.vendor_id ≤ 0xFFFFFF
  all : packed i channel medium protocol session ≡ s

info_packed : (i : ChannelInfo) (s : List ℕ) → info_bytes i ≡ accepted s → Packed i s
info_packed i s e =
    let (c, ec, e1) = steps (channel_field i.channel) _ e in
    let (m, em, e2) = steps (medium_field i.medium_type) _ e1 in
    let (p, ep, e3) = steps (protocol_field i.protocol_type) _ e2 in
    let (n, en, e4) = steps (session_field i.session_support) _ e3 in
    let (a, ea, e5) = steps (within 0 0x3F i.active_sessions) _ e4 in
    let (v, ev, e6) = steps (within 0 0xFFFFFF i.vendor_id) _ e5 in
    let wa = ranged i.active_sessions 0 0x3F i.active_sessions 9 ea in
    let wv = ranged i.vendor_id 0 0xFFFFFF i.vendor_id 9 ev in
    record {
      channel = c;
      medium = m;
      protocol = p;
      session = n;
      channel_is = ec;
      medium_is = em;
      protocol_is = ep;
      session_is = en;
      active = wa.1;
      vendor = wv.1;
      all = whole c m p n a v wa.2 wv.2 e6;
    }
  where
    whole : (c m p n a v : ℕ) → i.active_sessions ≡ a → i.vendor_id ≡ v
        → accepted (c ∷ m ∷ p ∷ (n * 64 + a) ∷ little_bytes 3 v ++ i.aux_info.byte1 ∷ i.aux_info.byte2 ∷ []) ≡ accepted s → packed i c m p n ≡ s
    whole c m p n a v f g e = rw (f, g) (cc)

-- The reader gives back what the writer wrote.
pub info_back : (i : ChannelInfo) (s : List ℕ) → info_bytes i ≡ accepted s → info_of s ≡ accepted i
info_back i s e =
    let w = info_packed i s e in
    let a = i.active_sessions in
    let (lm, fm) = (medium_kept i.medium_type).1 w.medium w.medium_is in
    let (lp, fp) = (protocol_kept i.protocol_type).1 w.protocol w.protocol_is in
    let (ls, fs) = (session_kept i.session_support).1 w.session w.session_is in
    let lc = channel_small i.channel w.channel w.channel_is in
    let zc : bits 0 4 w.channel ≡ w.channel = omega arith in
    let zm : bits 0 7 w.medium ≡ w.medium = omega arith in
    let zp : bits 0 5 w.protocol ≡ w.protocol = omega arith in
    let zs : bits 6 2 (w.session * 64 + a) ≡ w.session = omega arith in
    let za : bits 0 6 (w.session * 64 + a) ≡ a = omega arith in
    let zv = number_back 3 i.vendor_id (omega arith) in
    rw (← w.all, zc, (channel_iff w.channel i.channel).1 w.channel_is, zm, fm, zp, fp, zs, fs, za, zv)

info_bytes_lem : (i : ChannelInfo) (s : List ℕ) → Typed i → info_bytes i ≡ accepted s → Bytes s
info_bytes_lem i s b e =
    let w = info_packed i s e in
    let lm = ((medium_kept i.medium_type).1 w.medium w.medium_is).0 in
    let lp = ((protocol_kept i.protocol_type).1 w.protocol w.protocol_is).0 in
    let ls = ((session_kept i.session_support).1 w.session w.session_is).0 in
    let lc = channel_small i.channel w.channel w.channel_is in
    let v = bytes_are 3 i.vendor_id (i.aux_info.byte1 ∷ i.aux_info.byte2 ∷ []) b in
    rw (← w.all) (omega arith, (omega arith, (omega arith, (omega arith, v))))

-- The writer writes every record that some response, a string of bytes, gives.
pub info_given : (s : List ℕ) (i : ChannelInfo) → Bytes s → info_of s ≡ accepted i → (t : List ℕ) × (info_bytes i ≡ accepted t)
info_given s i b e = go (channel_of (bits 0 4 (byte 0 s))) refl
  where
    go : (y : Outcome Channel) → channel_of (bits 0 4 (byte 0 s)) ≡ y → (t : List ℕ) × (info_bytes i ≡ accepted t)
    go (refused n v) q = let (_, f) = otherwise 1 (ltb (length s) 9) e in absurd (apart (rw q at f))
    go (accepted c) q =
        let (_, f) = otherwise 1 (ltb (length s) 9) e in
        let g = rw q at f in
        let z : info_fields s c ≡ i = cc in
        let r = byte 3 s in
        let v : little (byte 4 s ∷ byte 5 s ∷ byte 6 s ∷ []) ≤ 0xFFFFFF = omega (arith, a_byte s b 4, a_byte s b 5, a_byte s b 6) in
        rw
        (← z, (channel_iff (bits 0 4 (byte 0 s)) c).0 q, medium_given (bits 0 7 (byte 1 s)) (omega arith), protocol_given (bits 0 5 (byte 2 s)) (omega arith), session_given (bits 6 2 r) (omega arith), inside (bits 0 6 r) 0 0x3F (bits 0 6 r) 9 (omega arith) (omega arith), inside (little (byte 4 s ∷ byte 5 s ∷ byte 6 s ∷ [])) 0 0xFFFFFF (little (byte 4 s ∷ byte 5 s ∷ byte 6 s ∷ [])) 9 (omega arith) v)
        (_, refl)

info_only : (i : ChannelInfo) → Only 9 (info_bytes i)
info_only i =
    begins_only i.channel _ λ c. only_steps 9 (medium_field i.medium_type) _ (medium_kept i.medium_type).0
    λ m. only_steps 9 (protocol_field i.protocol_type) _ (protocol_kept i.protocol_type).0
    λ p. only_steps 9 (session_field i.session_support) _ (session_kept i.session_support).0
    λ s. only_steps 9 (within 0 0x3F i.active_sessions) _ (only_ranged i.active_sessions 0 0x3F i.active_sessions 9)
    λ a. only_steps 9 (within 0 0xFFFFFF i.vendor_id) _ (only_ranged i.vendor_id 0 0xFFFFFF i.vendor_id 9) λ v. refl

-- Row 9: a record is refused 9 exactly where no response, a string of bytes, gives it.
pub info_no_form : (i : ChannelInfo) → Typed i → NoForm info_of info_bytes i
info_no_form i b = nine info_of info_bytes i (info_only i) (λ s e. (info_bytes_lem i s b e, info_back i s e)) (λ s. info_given s i)

-- The command.

-- Row 10: exactly what some command writes is read, and every other string of bytes is refused 10.
pub command_strict : Strict command_of (λ k s. command_bytes k ≡ accepted s)
command_strict =
    strict 1 (λ s. channel_of (byte 0 s) >>= λ c. accepted (command c)) _
    (λ s k b l e. let (c, ec, f) = steps (channel_of (byte 0 s)) _ e in
    let z : command c ≡ k = cc in
    rw (← z, (channel_iff (byte 0 s) c).0 ec, so_long s 1 l))
    λ s k e. let (n, en, f) = steps (channel_field k.channel) _ e in
    let z : ◌≡◌ {A = List ℕ} (n ∷ []) s = cc in
    let small = channel_small k.channel n en in
    rw (← z) ((omega arith, tt), refl, rw ((channel_iff n k.channel).1 en))

-- Refusal 9: ".. or a command whose channel no number makes", exactly then.
pub command_no_form : (k : GetChannelInfo) → command_bytes k ≡ refused 9 [] ↔ ((n : ℕ) → channel_of n ≡ accepted k.channel → ⊥)
command_no_form k = no_channel_form k.channel (λ n. n ∷ [])
