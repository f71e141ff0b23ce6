-- Laws of Set Channel Access: the command, applied to a channel's two settings.
use mathlib.Core.Path.{◌≡◌, refl, sym, ◌∙◌}
use mathlib.Core.Bool.{Bool, true, false}
use mathlib.Core.List.{List, [], ◌∷◌}
use Prim.Native.Nat.{ℕ, ◌+◌, ◌*◌, ◌^◌}
use native.Mathlib.Omega.{arith}
use Rattle.std.specs.Prelude.{if◌then◌else◌}
use Rattle.base.specs.Connection.{channel_field}
use Rattle.base.specs.Field.{byte, bits}
use Rattle.base.specs.Outcome.{Outcome, accepted, refused, ◌>>=◌}
use Rattle.base.specs.declared.connection.Channel.TheVariants.{Numbered}
use Rattle.base.proofs.Outcome.{apart, steps, Only, only_steps}
use Rattle.base.proofs.field.Laws.{so_long}
use Rattle.access.specs.GetChannelAccess.{access_bytes, limit_field, mode_field}
use Rattle.access.specs.declared.get_channel_access.ChannelAccess.{ChannelAccess}
use Rattle.access.specs.declared.get_channel_access.ChannelAccessMode.TheVariants as Mode
use Rattle.access.specs.declared.get_channel_access.ChannelAccessType.{ChannelAccessType}
use Rattle.access.specs.declared.get_channel_access.ChannelAccessType.TheVariants.{NonVolatile, Volatile}
use Rattle.access.specs.declared.get_channel_access.ChannelPrivilegeLevel.TheVariants as Level
use Rattle.access.proofs.get_channel_access.Laws.{access_two, first}
use Rattle.set_access.specs.SetChannelAccess.{applied, changed, chosen, command, command_bytes, command_of, joined, pair_of, parts_bytes, sets}
use Rattle.set_access.specs.declared.set_channel_access.AccessPair.TheVariants as Pair
use Rattle.set_access.specs.declared.set_channel_access.ChannelSettings.{ChannelSettings}
use Rattle.set_access.specs.declared.set_channel_access.SetChannelAccess.{SetChannelAccess}
use Rattle.set_access.proofs.set_channel_access.Laws.{pair_kept, parts_are, parts_only}

-- the setting that a Get of either kind asks for
abbrev pub setting_of : ChannelAccessType → ChannelSettings → ChannelAccess
setting_of NonVolatile settings = settings.non_volatile
setting_of Volatile settings = settings.volatile

-- what the settings are after a command that is applied
abbrev both : SetChannelAccess → ChannelSettings → ChannelSettings
both k before = record { non_volatile = changed NonVolatile k before.non_volatile; volatile = changed Volatile k before.volatile }

both_are : (k : SetChannelAccess) (before after : ChannelSettings) → applied k before ≡ accepted after → both k before ≡ after
both_are k before after e = let (p, ep, f) = steps (parts_bytes k) (λ p. accepted (both k before)) e in cc

after_are : (k : SetChannelAccess) (before after : ChannelSettings) → applied k before ≡ accepted after → (kind : ChannelAccessType)
    → setting_of kind after ≡ changed kind k (setting_of kind before)
after_are k before after e NonVolatile = rw (← both_are k before after e)
after_are k before after e Volatile = rw (← both_are k before after e)

-- The two bytes that a Get shows: the first is of mode and disable bits alone, the second of the limit alone.

abbrev pub mode_byte : ChannelAccess → Outcome ℕ
mode_byte a = mode_field a.access_mode >>= λ m. accepted (first m a.user_level_auth_disabled a.per_msg_auth_disabled a.alerting_disabled)

abbrev pub limit_byte : ChannelAccess → Outcome ℕ
limit_byte a = limit_field a.privilege_level_limit

abbrev pub two_bytes : Outcome ℕ → Outcome ℕ → Outcome (List ℕ)
two_bytes x y = x >>= λ f. y >>= λ l. accepted (f ∷ l ∷ [])

joined_shown : (m l : ChannelAccess) → access_bytes (joined m l) ≡ two_bytes (mode_byte m) (limit_byte l)
joined_shown m l = go (mode_field m.access_mode)
  where
    go : (x : Outcome ℕ)
        → (x >>= λ n. limit_byte l >>= λ i. accepted (first n m.user_level_auth_disabled m.per_msg_auth_disabled m.alerting_disabled ∷ i ∷ []))
        ≡ two_bytes (x >>= λ n. accepted (first n m.user_level_auth_disabled m.per_msg_auth_disabled m.alerting_disabled)) (limit_byte l)
    go (accepted n) = refl
    go (refused n v) = refl

-- "a Get afterwards shows exactly the parts that were set, the part marked leave as before": four cases, one law.
pub get_after : (k : SetChannelAccess) (before after : ChannelSettings) → applied k before ≡ accepted after → (kind : ChannelAccessType)
    → access_bytes (setting_of kind after)
    ≡ two_bytes
    (mode_byte (if sets k.mode_pair kind then k.access else setting_of kind before))
    (limit_byte (if sets k.limit_pair kind then k.access else setting_of kind before))
get_after k before after e kind =
    rw (after_are k before after e kind)
    (joined_shown (chosen k.mode_pair kind k.access (setting_of kind before)) (chosen k.limit_pair kind k.access (setting_of kind before)))

-- A part that no pair sets is as it was, also the other setting.
pub untouched : (k : SetChannelAccess) (before after : ChannelSettings) → applied k before ≡ accepted after → (kind : ChannelAccessType)
    → sets k.mode_pair kind ≡ false → sets k.limit_pair kind ≡ false → setting_of kind after ≡ setting_of kind before
untouched k before after e kind m l = rw (after_are k before after e kind, m, l)

-- A command that leaves both parts changes nothing.
pub leaves_both : (k : SetChannelAccess) (before after : ChannelSettings) → applied k before ≡ accepted after
    → k.mode_pair ≡ Pair.Leave → k.limit_pair ≡ Pair.Leave → after ≡ before
leaves_both k before after e m l = rw (← both_are k before after e, m, l)

-- Applying twice is applying once.

abbrev by : Bool → Bool → ChannelAccess → ChannelAccess → ChannelAccess
by x y set a = joined (if x then set else a) (if y then set else a)

by_twice : (x y : Bool) (set a : ChannelAccess) → by x y set (by x y set a) ≡ by x y set a
by_twice true true set a = refl
by_twice true false set a = refl
by_twice false true set a = refl
by_twice false false set a = refl

once : (kind : ChannelAccessType) (k : SetChannelAccess) (a : ChannelAccess) → changed kind k (changed kind k a) ≡ changed kind k a
once kind k a = by_twice (sets k.mode_pair kind) (sets k.limit_pair kind) k.access a

pub twice : (k : SetChannelAccess) (before : ChannelSettings) → (applied k before >>= applied k) ≡ applied k before
twice k before = go (parts_bytes k)
  where
    go : (x : Outcome (List ℕ)) → ((x >>= λ p. accepted (both k before)) >>= λ s. x >>= λ p. accepted (both k s)) ≡ (x >>= λ p. accepted (both k before))
    go (refused n v) = refl
    go (accepted p) = rw (once NonVolatile k before.non_volatile, once Volatile k before.volatile)

-- Refused by 9 alone, and whatever the settings are exactly where bytes 1 and 2 have no form (`parts_form`).
pub applied_only : (k : SetChannelAccess) (before : ChannelSettings) → Only 9 (applied k before)
applied_only k before = only_steps 9 (parts_bytes k) _ (parts_only k) λ p. refl

pub applied_form : (k : SetChannelAccess) (before : ChannelSettings) (p : List ℕ) → parts_bytes k ≡ accepted p → (after : ChannelSettings) × (applied k before ≡ accepted after)
applied_form k before p e = (both k before, rw e)

-- The same in bytes: a request's, and those that a Get of either kind shows before and after.

two_are : (x y : Outcome ℕ) {f l : ℕ} → two_bytes x y ≡ accepted (f ∷ l ∷ []) → (x ≡ accepted f) × (y ≡ accepted l)
two_are (accepted f) (accepted l) e = (cc, cc)
two_are (accepted f) (refused n v) e = absurd (apart e)
two_are (refused n v) y e = absurd (apart e)

part : (x : Bool) (byte_of : ChannelAccess → Outcome ℕ) (set before : ChannelAccess) {s b : ℕ} → byte_of set ≡ accepted s → byte_of before ≡ accepted b
    → byte_of (if x then set else before) ≡ accepted (if x then s else b)
part true byte_of set before e f = e
part false byte_of set before e f = f

pub get_bytes : (k : SetChannelAccess) (x y z : ℕ) → command_bytes k ≡ accepted (x ∷ y ∷ z ∷ [])
    → (before after : ChannelSettings) → applied k before ≡ accepted after
    → (kind : ChannelAccessType) (f l : ℕ) → access_bytes (setting_of kind before) ≡ accepted (f ∷ l ∷ [])
    → access_bytes (setting_of kind after)
    ≡ accepted ((if sets (pair_of (bits 6 2 y)) kind then bits 0 6 y else f) ∷ (if sets (pair_of (bits 6 2 z)) kind then bits 0 4 z else l) ∷ [])
get_bytes k x y z w before after e kind f l g =
    let (c, ec, w1) = steps (channel_field k.channel) (λ c. parts_bytes k >>= λ p. accepted (c ∷ p)) w in
    let (p, ep, w2) = steps (parts_bytes k) (λ p. accepted (c ∷ p)) w1 in
    let (m, n, t, em, en, et, h) = parts_are k p ep in
    let (long, first, second) = access_two k.access et in
    let (sm, pm) = (pair_kept k.mode_pair).1 m em in
    let (sn, pn) = (pair_kept k.limit_pair).1 n en in
    let ey : y ≡ byte 0 t + m * 2 ^ 6 = cc in
    let ez : z ≡ byte 1 t + n * 2 ^ 6 = cc in
    let ym : bits 6 2 y ≡ m = omega arith in
    let zn : bits 6 2 z ≡ n = omega arith in
    let yf : byte 0 t ≡ bits 0 6 y = omega arith in
    let zl : byte 1 t ≡ bits 0 4 z = omega arith in
    let eb : access_bytes k.access ≡ accepted (bits 0 6 y ∷ bits 0 4 z ∷ []) = et ∙ rw (← so_long t 2 long, yf, zl) in
    let (sf, sl) = two_are (mode_byte k.access) (limit_byte k.access) (sym (joined_shown k.access k.access) ∙ eb) in
    let (bf, bl) = two_are (mode_byte (setting_of kind before)) (limit_byte (setting_of kind before)) (sym (joined_shown (setting_of kind before) (setting_of kind before)) ∙ g) in
    get_after k before after e kind
    ∙ rw
    (part (sets k.mode_pair kind) mode_byte k.access (setting_of kind before) sf bf, part (sets k.limit_pair kind) limit_byte k.access (setting_of kind before) sl bl, ym, zn, pm, pn)

-- An example: `01 3F 04` is a command, and leaves everything as it was.

abbrev example : SetChannelAccess
example =
    command (Numbered (record { 0 = 1 })) Pair.Leave Pair.Leave
    (record {
      access_mode = Mode.Unknown 7;
      alerting_disabled = true;
      per_msg_auth_disabled = true;
      user_level_auth_disabled = true;
      privilege_level_limit = Level.Administrator;
    })

pub leaving_command : (command_of (0x01 ∷ 0x3F ∷ 0x04 ∷ []) ≡ accepted example) × (command_bytes example ≡ accepted (0x01 ∷ 0x3F ∷ 0x04 ∷ []))
leaving_command = (refl, refl)

pub leaving_applied : (settings : ChannelSettings) → applied example settings ≡ accepted settings
leaving_applied settings = refl
