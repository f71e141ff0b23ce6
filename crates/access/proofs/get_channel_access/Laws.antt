-- Laws of Get Channel Access.
use mathlib.Core.Logic.{◌↔◌}
use mathlib.Core.Path.{◌≡◌, refl, sym, ◌∙◌, ap}
use mathlib.Core.Bool.{Bool, true, false}
use mathlib.Core.List.{List, [], ◌∷◌}
use Prim.Native.Nat.{ℕ, ◌+◌, ◌≤◌, ◌<◌}
use native.Mathlib.Omega.{arith}
use borrow.Author.Tests.{eqb-true}
use lib.Dec.{eqb, ltb, lit<}
use lib.ListN.{get_or-eq_default, length}
use mir.Val.{bool_byte}
use Rattle.std.specs.Prelude.{if◌then◌else◌}
use Rattle.base.specs.Connection.{channel_of, channel_field}
use Rattle.base.specs.Field.{Bytes, byte, bits, raised}
use Rattle.access.specs.GetChannelAccess.{access_fields, access_of, access_bytes, command, command_of, command_bytes, limits, limit_of, limit_field, modes, mode_of, mode_field, type_of, type_byte, limit_value, mode_value}
use Rattle.base.specs.Outcome.{accepted, refused, ◌>>=◌}
use Rattle.access.specs.declared.get_channel_access.ChannelAccess.{ChannelAccess}
use Rattle.access.specs.declared.get_channel_access.ChannelAccessMode.{ChannelAccessMode}
use Rattle.access.specs.declared.get_channel_access.ChannelAccessMode.TheVariants as Mode
use Rattle.access.specs.declared.get_channel_access.ChannelAccessType.{ChannelAccessType}
use Rattle.access.specs.declared.get_channel_access.ChannelAccessType.TheVariants.{NonVolatile, Volatile}
use Rattle.access.specs.declared.get_channel_access.ChannelPrivilegeLevel.{ChannelPrivilegeLevel}
use Rattle.access.specs.declared.get_channel_access.ChannelPrivilegeLevel.TheVariants as Level
use Rattle.access.specs.declared.get_channel_access.GetChannelAccess.{GetChannelAccess}
use Rattle.base.proofs.Outcome.{apart, otherwise, steps, Only, only_steps}
use Rattle.base.proofs.Rows.{NoForm, nine, Strict, strict}
use Rattle.base.proofs.connection.Laws.{channel_iff, channel_small, no_channel_form}
use Rattle.base.proofs.field.Laws.{below, bit_small, is_set, Kept, one, ranging, so_long, valued}

-- Modes and limits: a number that is read is written again, and what is written is read again.

pub mode_unknown : (n : ℕ) → 4 ≤ n → mode_of n ≡ Mode.Unknown n
mode_unknown n h = get_or-eq_default modes (Mode.Unknown n) h

pub limit_unknown : (n : ℕ) → 6 ≤ n → limit_of n ≡ Level.Unknown n
limit_unknown n h = get_or-eq_default limits (Level.Unknown n) h

pub mode_given : (n : ℕ) → n ≤ 7 → mode_field (mode_of n) ≡ accepted n
mode_given n h = below 8 (λ n. mode_field (mode_of n)) accepted refl n (omega arith)

pub limit_given : (n : ℕ) → n ≤ 15 → limit_field (limit_of n) ≡ accepted n
limit_given n h = below 16 (λ n. limit_field (limit_of n)) accepted refl n (omega arith)

pub mode_kept : (m : ChannelAccessMode) → Kept mode_of 8 m (mode_field m)
mode_kept Mode.Disabled = one mode_of 8 0 (lit< tt) refl
mode_kept Mode.PreBootOnly = one mode_of 8 1 (lit< tt) refl
mode_kept Mode.AlwaysAvailable = one mode_of 8 2 (lit< tt) refl
mode_kept Mode.Shared = one mode_of 8 3 (lit< tt) refl
mode_kept (Mode.Unknown v) = ranging mode_of 8 4 7 v (lit< tt) λ l h. mode_unknown v l

pub limit_kept : (m : ChannelPrivilegeLevel) → Kept limit_of 16 m (limit_field m)
limit_kept Level.Reserved = one limit_of 16 0 (lit< tt) refl
limit_kept Level.Callback = one limit_of 16 1 (lit< tt) refl
limit_kept Level.User = one limit_of 16 2 (lit< tt) refl
limit_kept Level.Operator = one limit_of 16 3 (lit< tt) refl
limit_kept Level.Administrator = one limit_of 16 4 (lit< tt) refl
limit_kept Level.Oem = one limit_of 16 5 (lit< tt) refl
limit_kept (Level.Unknown v) = ranging limit_of 16 6 15 v (lit< tt) λ l h. limit_unknown v l

-- What is read from a number has that number as its value.

pub mode_value_lem : (n : ℕ) → mode_value (mode_of n) ≡ n
mode_value_lem = valued mode_value mode_of 4 refl λ n past. ap mode_value (mode_unknown n past)

pub limit_value_lem : (n : ℕ) → limit_value (limit_of n) ≡ n
limit_value_lem = valued limit_value limit_of 6 refl λ n past. ap limit_value (limit_unknown n past)

-- What is in a field is the value.

pub mode_field_lem : (m : ChannelAccessMode) (n : ℕ) → mode_field m ≡ accepted n → mode_value m ≡ n
mode_field_lem m n e = ap mode_value (sym ((mode_kept m).1 n e).1) ∙ mode_value_lem n

pub limit_field_lem : (m : ChannelPrivilegeLevel) (n : ℕ) → limit_field m ≡ accepted n → limit_value m ≡ n
limit_field_lem m n e = ap limit_value (sym ((limit_kept m).1 n e).1) ∙ limit_value_lem n

-- Byte 0 of the response: its four fields.

abbrev pub first : ℕ → Bool → Bool → Bool → ℕ
first mode user perMessage alerting = mode + raised 3 user + raised 4 perMessage + raised 5 alerting

module _ (mode : ℕ) (user perMessage alerting : Bool) (small : mode < 8) where
  fields : (bits 0 3 (first mode user perMessage alerting) ≡ mode)
      × (bits 3 1 (first mode user perMessage alerting) ≡ bool_byte user)
      × (bits 4 1 (first mode user perMessage alerting) ≡ bool_byte perMessage)
      × (bits 5 1 (first mode user perMessage alerting) ≡ bool_byte alerting)
  fields =
      let u = bit_small user in
      let p = bit_small perMessage in
      let a = bit_small alerting in
      (omega arith, omega arith, omega arith, omega arith)

reads : (a : ChannelAccess) (m l : ℕ) → mode_field a.access_mode ≡ accepted m → limit_field a.privilege_level_limit ≡ accepted l
    → access_of (first m a.user_level_auth_disabled a.per_msg_auth_disabled a.alerting_disabled ∷ l ∷ []) ≡ accepted a
reads a m l e f =
    let (small, mode) = (mode_kept a.access_mode).1 m e in
    let (low, limit) = (limit_kept a.privilege_level_limit).1 l f in
    let w = fields m a.user_level_auth_disabled a.per_msg_auth_disabled a.alerting_disabled small in
    let z : bits 0 4 l ≡ l = omega arith in
    simp (w.0, w.1, w.2, w.3, z, mode, limit, is_set)

-- The reader gives back what the writer wrote.
pub access_back : (a : ChannelAccess) (s : List ℕ) → access_bytes a ≡ accepted s → access_of s ≡ accepted a
access_back a s e =
    let (m, em, f) = steps (mode_field a.access_mode) _ e in
    let (l, el, g) = steps (limit_field a.privilege_level_limit) _ f in
    let z : ◌≡◌ {A = List ℕ} (first m a.user_level_auth_disabled a.per_msg_auth_disabled a.alerting_disabled ∷ l ∷ []) s = cc in
    rw (← z) (reads a m l em el)

-- That is two bytes: bits 7:6 of the first and 7:4 of the second are clear.
pub access_two : (a : ChannelAccess) {s : List ℕ} → access_bytes a ≡ accepted s → (length s ≡ 2) × (byte 0 s < 64) × (byte 1 s < 16)
access_two a {s} e =
    let (m, em, f) = steps (mode_field a.access_mode) _ e in
    let (l, el, g) = steps (limit_field a.privilege_level_limit) _ f in
    let z : ◌≡◌ {A = List ℕ} (first m a.user_level_auth_disabled a.per_msg_auth_disabled a.alerting_disabled ∷ l ∷ []) s = cc in
    let (small, _) = (mode_kept a.access_mode).1 m em in
    let (low, _) = (limit_kept a.privilege_level_limit).1 l el in
    let u = bit_small a.user_level_auth_disabled in
    let p = bit_small a.per_msg_auth_disabled in
    let d = bit_small a.alerting_disabled in
    rw (← z) (refl, omega arith, low)

pub access_bytes_lem : (a : ChannelAccess) (s : List ℕ) → access_bytes a ≡ accepted s → Bytes s
access_bytes_lem a s e = let (l, f, g) = access_two a e in rw (← so_long s 2 l) (omega arith, (omega arith, tt))

-- The writer writes every record that some response gives.
pub access_given : (s : List ℕ) (a : ChannelAccess) → access_of s ≡ accepted a → (t : List ℕ) × (access_bytes a ≡ accepted t)
access_given s a e =
    let (_, f) = otherwise 1 (ltb (length s) 2) e in
    let z : access_fields (byte 0 s) (byte 1 s) ≡ a = cc in
    rw (← z) (simp (mode_given (bits 0 3 (byte 0 s)) (omega arith), limit_given (bits 0 4 (byte 1 s)) (omega arith)) (_, refl))

pub access_only : (a : ChannelAccess) → Only 9 (access_bytes a)
access_only a = only_steps 9 (mode_field a.access_mode) _ (mode_kept a.access_mode).0 λ m. only_steps 9 (limit_field a.privilege_level_limit) _ (limit_kept a.privilege_level_limit).0 λ l. refl

-- Row 9: a record is refused 9 exactly where no response, a string of bytes, gives it.
pub access_no_form : (a : ChannelAccess) → NoForm access_of access_bytes a
access_no_form a = nine access_of access_bytes a (access_only a) (λ s e. (access_bytes_lem a s e, access_back a s e)) (λ s b g. access_given s a g)

-- The command.

type_iff : (n : ℕ) (t : ChannelAccessType) → type_of n ≡ accepted t ↔ type_byte t ≡ n
type_iff n t = (go (eqb n 0x40) (eqb n 0x80) refl refl, back t)
  where
    go : (x y : Bool) → eqb n 0x40 ≡ x → eqb n 0x80 ≡ y → (if x then accepted NonVolatile else if y then accepted Volatile else refused 10 []) ≡ accepted t → type_byte t ≡ n
    go true y p q e = cc (eqb-true n 0x40 p)
    go false true p q e = cc (eqb-true n 0x80 q)
    go false false p q e = absurd (apart e)

    back : (t : ChannelAccessType) → type_byte t ≡ n → type_of n ≡ accepted t
    back NonVolatile e = rw (← e)
    back Volatile e = rw (← e)

type_small : (t : ChannelAccessType) → type_byte t < 256
type_small = elim [ NonVolatile ↦ lit< tt | Volatile ↦ lit< tt ]

-- Row 10: exactly what some command writes is read, and every other string of bytes is refused 10.
pub command_strict : Strict command_of (λ k s. command_bytes k ≡ accepted s)
command_strict =
    strict 2 (λ s. channel_of (byte 0 s) >>= λ c. type_of (byte 1 s) >>= λ t. accepted (command c t)) _
    (λ s k b l e. let (c, ec, f) = steps (channel_of (byte 0 s)) _ e in
    let (t, et, g) = steps (type_of (byte 1 s)) _ f in
    let z : command c t ≡ k = cc in
    rw (← z, (channel_iff (byte 0 s) c).0 ec, (type_iff (byte 1 s) t).0 et, so_long s 2 l))
    λ s k e. let (n, en, f) = steps (channel_field k.channel) _ e in
    let t = k.access_type in
    let z : ◌≡◌ {A = List ℕ} (n ∷ type_byte k.access_type ∷ []) s = cc in
    let small = channel_small k.channel n en in
    rw (← z) ((omega arith, (type_small t, tt)), refl, rw ((channel_iff n k.channel).1 en, (type_iff (type_byte t) t).1 refl))

-- Refusal 9: ".. or a command whose channel no number makes", exactly then.
pub command_no_form : (k : GetChannelAccess) → command_bytes k ≡ refused 9 [] ↔ ((n : ℕ) → channel_of n ≡ accepted k.channel → ⊥)
command_no_form k = no_channel_form k.channel (λ n. n ∷ type_byte k.access_type ∷ [])
