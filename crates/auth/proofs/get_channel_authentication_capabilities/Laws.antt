-- Laws of Get Channel Authentication Capabilities.
use Rattle.std.specs.Prelude.{◌≡◌, ℕ, ◌+◌, ◌-◌, ◌≤◌, Bool, true, false, not, ltb, ◌↔◌, List, [], ◌∷◌, length, None}
use mathlib.Core.Path.{refl, ap, ◌∙◌}
use native.Mathlib.Omega.{arith}
use borrow.Author.Tests.{ltb-false, le-ltb}
use Rattle.auth.specs.Auth.{privileges, privilege_value}
use Rattle.auth.specs.GetChannelAuthenticationCapabilities.{Typed, asked_channel, asked_level, best_auth, capabilities_bytes, capabilities_of, command, command_bytes, command_of, extended_of}
use Rattle.auth.specs.declared.AuthType.TheVariants as Kind
use Rattle.auth.specs.declared.PrivilegeLevel.{PrivilegeLevel}
use Rattle.auth.specs.declared.get_channel_authentication_capabilities.ChannelAuthenticationCapabilities.{ChannelAuthenticationCapabilities}
use Rattle.auth.specs.declared.get_channel_authentication_capabilities.GetChannelAuthenticationCapabilities.{GetChannelAuthenticationCapabilities}
use Rattle.auth.proofs.Laws.{best_none, nibble_iff, privilege_again}
use Rattle.base.specs.Connection.{channel_of, channel_field}
use Rattle.base.specs.Field.{Bytes, byte, flag}
use Rattle.base.specs.Named.{named}
use Rattle.base.specs.Outcome.{accepted, refused, ◌>>=◌}
use Rattle.base.specs.declared.connection.Channel.{Channel}
use Rattle.base.proofs.Named.{required_some}
use Rattle.base.proofs.Outcome.{otherwise, steps}
use Rattle.base.proofs.Rows.{Strict, strict}
use Rattle.base.proofs.connection.Laws.{channel_iff, channel_small, no_channel_form}
use Rattle.base.proofs.field.Laws.{flags_read, so_long}

-- The command.

-- the byte of a level is its whole number
level_iff : (n : ℕ) (l : PrivilegeLevel) → asked_level n ≡ accepted l ↔ privilege_value l ≡ n
level_iff n l = ((λ e. (nibble_iff n l).0 (required_some 10 [] (named privileges n) e)), λ e. rw ((nibble_iff n l).1 e))

-- the channel stands under bit 7
asked : (n : ℕ) (c : Channel) → asked_channel n ≡ accepted c → (0x80 ≤ n) × (channel_field c ≡ accepted (n - 0x80))
asked n c e = let (p, f) = otherwise 10 (ltb n 0x80) e in (ltb-false n 0x80 p, (channel_iff (n - 0x80) c).0 f)

asks : (n : ℕ) (c : Channel) → channel_field c ≡ accepted n → asked_channel (0x80 + n) ≡ accepted c
asks n c e = let z : 0x80 + n - 0x80 ≡ n = omega arith in simp (le-ltb (0x80 + n) 0x80 (omega arith), z, (channel_iff n c).1 e)

-- Row 10: exactly what some command writes is read, and every other string of bytes is refused 10.
pub command_strict : Strict command_of (λ k s. command_bytes k ≡ accepted s)
command_strict =
    strict 2 (λ s. asked_channel (byte 0 s) >>= λ c. asked_level (byte 1 s) >>= λ l. accepted (command c l)) _
    (λ s k b h e. let (c, ec, f) = steps (asked_channel (byte 0 s)) _ e in
    let (l, el, g) = steps (asked_level (byte 1 s)) _ f in
    let z : command c l ≡ k = cc in
    let (high, b0) = asked (byte 0 s) c ec in
    let y : 0x80 + (byte 0 s - 0x80) ≡ byte 0 s = omega arith in
    rw (← z, b0, y, (level_iff (byte 1 s) l).0 el, so_long s 2 h))
    λ s k e. let (n, en, f) = steps (channel_field k.channel_number) _ e in
    let l = k.privilege_level in
    let z : ◌≡◌ {A = List ℕ} ((0x80 + n) ∷ privilege_value k.privilege_level ∷ []) s = cc in
    let small = channel_small k.channel_number n en in
    rw (← z) ((omega arith, ((privilege_again l).0, tt)), refl, rw (asks n k.channel_number en, (level_iff (privilege_value l) l).1 refl))

-- Refusal 9: ".. or a command whose channel no number makes", exactly then.
pub command_no_form : (k : GetChannelAuthenticationCapabilities) → command_bytes k ≡ refused 9 [] ↔ ((n : ℕ) → channel_of n ≡ accepted k.channel_number → ⊥)
command_no_form k = no_channel_form k.channel_number (λ n. (0x80 + n) ∷ privilege_value k.privilege_level ∷ [])

-- The response.

-- bytes 0 to 2, and what stands elsewhere by bit 7 of byte 1; "bit 4 set means per-message authentication is NOT enabled, bit 3 the same for user level"
abbrev pub capabilities_from : ℕ → ℕ → ℕ → Bool → Bool → Bool → List ℕ → ℕ → ChannelAuthenticationCapabilities
capabilities_from channel types status kg v2 v15 id auxiliary =
    record {
      channel_number = channel;
      oem_proprietary = flag 5 types;
      key = flag 4 types;
      md5 = flag 2 types;
      md2 = flag 1 types;
      none = flag 0 types;
      kg_status = kg;
      per_message_authentication_enabled = not (flag 4 status);
      user_level_authentication_enabled = not (flag 3 status);
      non_null_usernames_enabled = flag 2 status;
      null_usernames_enabled = flag 1 status;
      anonymous_login_enabled = flag 0 status;
      ipmi2_connections_supported = v2;
      ipmi15_connections_supported = v15;
      oem_id = id;
      oem_auxiliary_data = auxiliary;
    }

-- the two forms that are read: the places of each are said here by themselves, beside the definitions
module _ (s : List ℕ) (c : ChannelAuthenticationCapabilities) (id : List ℕ) where
  pub is_plain : 7 ≤ length s → flag 7 (byte 1 s) ≡ false
      → c ≡ capabilities_from (byte 0 s) (byte 1 s) (byte 2 s) false false false id (byte 6 s) → id ≡ byte 3 s ∷ byte 4 s ∷ byte 5 s ∷ [] → capabilities_of s ≡ accepted c
  is_plain h x e i = rw (le-ltb (length s) 7 h, x, e, i)

  pub is_extended : (kg v2 v15 : Bool) → 8 ≤ length s → kg ≡ flag 5 (byte 2 s) → v2 ≡ flag 1 (byte 3 s) → v15 ≡ flag 0 (byte 3 s)
      → c ≡ capabilities_from (byte 0 s) (byte 1 s) (byte 2 s) kg v2 v15 id (byte 7 s) → id ≡ byte 4 s ∷ byte 5 s ∷ byte 6 s ∷ [] → extended_of s ≡ accepted c
  is_extended kg v2 v15 h k f g e i = rw (le-ltb (length s) 8 h, e, k, f, g, i)

twice : (b : Bool) → not (not b) ≡ b
twice true = refl
twice false = refl

-- an extended response whose flags are those of the record
reads : (c : ChannelAuthenticationCapabilities) (types status versions : ℕ) (id : List ℕ) → byte 0 id ∷ byte 1 id ∷ byte 2 id ∷ [] ≡ c.oem_id
    → (flag 7 types ≡ true) × (flag 5 types ≡ c.oem_proprietary) × (flag 4 types ≡ c.key) × (flag 2 types ≡ c.md5) × (flag 1 types ≡ c.md2) × (flag 0 types ≡ c.none)
    → (flag 5 status ≡ c.kg_status) × (not (flag 4 status) ≡ c.per_message_authentication_enabled) × (not (flag 3 status) ≡ c.user_level_authentication_enabled)
    × (flag 2 status ≡ c.non_null_usernames_enabled) × (flag 1 status ≡ c.null_usernames_enabled) × (flag 0 status ≡ c.anonymous_login_enabled)
    → (flag 1 versions ≡ c.ipmi2_connections_supported) × (flag 0 versions ≡ c.ipmi15_connections_supported)
    → capabilities_of (c.channel_number ∷ types ∷ status ∷ versions ∷ byte 0 id ∷ byte 1 id ∷ byte 2 id ∷ c.oem_auxiliary_data ∷ []) ≡ accepted c
reads c types status versions id i t s v =
    rw (t.0, t.1, t.2, t.3, t.4, t.5, s.0, s.1, s.2, s.3, s.4, s.5, v.0, v.1, i)

-- The reader gives back what the writer wrote, a string of bytes: no record is without a form.
pub capabilities_back : (c : ChannelAuthenticationCapabilities) → Typed c → Bytes (capabilities_bytes c) × (capabilities_of (capabilities_bytes c) ≡ accepted c)
capabilities_back c h =
    let pma = c.per_message_authentication_enabled in
    let ula = c.user_level_authentication_enabled in
    let t = flags_read true false c.oem_proprietary c.key false c.md5 c.md2 c.none in
    let s = flags_read false false c.kg_status (not pma) (not ula) c.non_null_usernames_enabled c.null_usernames_enabled c.anonymous_login_enabled in
    let v = flags_read false false false false false false c.ipmi2_connections_supported c.ipmi15_connections_supported in
    let b = capabilities_bytes c in
    let i = h.id.1 in (
      (h.rest.0, (t.8, (s.8, (v.8, ((i 0).fits, ((i 1).fits, ((i 2).fits, h.rest.1))))))),
      reads c (byte 1 b) (byte 2 b) (byte 3 b) c.oem_id (so_long c.oem_id 3 h.id.0)
          (t.0, t.2, t.3, t.5, t.6, t.7)
          (s.2, ap not s.3 ∙ twice pma, ap not s.4 ∙ twice ula, s.5, s.6, s.7)
          (v.6, v.7),
    )

-- "no type exactly when all four bits are clear"
pub no_auth_iff : (c : ChannelAuthenticationCapabilities) → best_auth c ≡ None ↔ (c.md5 ≡ false) × (c.md2 ≡ false) × (c.key ≡ false) × (c.none ≡ false)
no_auth_iff c =
    let none-iff = best_none c.key c.md5 c.md2 c.none in
    ((λ e. let f = none-iff.0 e in (f Kind.MD5, f Kind.MD2, f Kind.Key, f Kind.None)), λ h. none-iff.1 (elim [ Kind.None ↦ h.3 | Kind.MD2 ↦ h.1 | Kind.MD5 ↦ h.0 | Kind.Key ↦ h.2 ]))
