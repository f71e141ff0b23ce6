-- Laws of Set Channel Access from C.
use mathlib.Core.List.{List, ◌∷◌}
use mathlib.Core.Path.{◌≡◌, refl, sym, ◌∙◌, ap}
use Prim.Native.Nat.{ℕ, zero, suc}
use native.Mathlib.Omega.{arith}
use lib.ListN.{drop}
use Rattle.std.specs.Prelude.{Result}
use Rattle.base.specs.Connection.{channel_field, channel_of}
use Rattle.base.specs.Field.{Bytes, byte}
use Rattle.base.specs.Outcome.{accepted, ◌>>=◌}
use Rattle.base.specs.Refusal.{said}
use Rattle.base.specs.declared.connection.Channel.{Channel}
use Rattle.base.specs.declared.refusal.Refusal.{Refusal}
use Rattle.base.proofs.Outcome.{apart, steps}
use Rattle.base.proofs.connection.Laws.{value_new}
use Rattle.access.specs.declared.get_channel_access.ChannelAccess.{ChannelAccess}
use Rattle.set_access.specs.SetChannelAccess.{applied, command, command_bytes, command_for, command_of, pair_field, pair_of, pair_value, parts_bytes}
use Rattle.set_access.specs.declared.set_channel_access.AccessPair.{AccessPair}
use Rattle.set_access.specs.declared.set_channel_access.ChannelSettings.{ChannelSettings}
use Rattle.set_access.proofs.set_channel_access.Laws.{command_back, command_iff, pair_reserved, parts_are}
use Rattle.layouts.specs.Layouts.{access_record, set_access_layout, settings_layout, settings_record}
use Rattle.layouts.proofs.Laws.{flagged, record_laid, set_access_back}
use Rattle.capi.specs.Settings.{set_access_applied, set_access_record, set_access_request}

-- What is answered of a command whose parts were made first: its applying.
module _ {m m' l l' : AccessPair} {a a' : ChannelAccess} (p : m ≡ m') (q : l ≡ l') (r : a ≡ a') where
  pub applied_of : {x y : Result ChannelSettings Refusal} {s s' : ChannelSettings} (channel : Channel) → s ≡ s' → said x ≡ applied (command channel m l a) s → x ≡ y
      → applied (command channel m' l' a') s' ≡ said y
  applied_of channel t e f = rw (← f, ← p, ← q, ← r, ← t) (sym e)

-- The channel that stands in `set_access_applied` might be any.
pub any_channel : (channel : Channel) (m l : ℕ) (access settings : List ℕ)
    → (applied (command channel (pair_of m) (pair_of l) (access_record access)) (settings_record settings) >>= λ after. accepted (settings_layout after)) ≡ set_access_applied m l access settings
any_channel channel m l access settings = refl

-- What is read from C, given back, is the request that was read.
pub set_access_again : (s r : List ℕ) → Bytes s → set_access_record s ≡ accepted r → set_access_request (byte 0 r) (byte 1 r) (byte 2 r) (drop 3 r) ≡ accepted s
set_access_again s r b e =
    let (k, ek, f) = steps (command_of s) (λ k. accepted (set_access_layout k)) e in
    let w = (command_iff s k b).0 ek in
    let z : set_access_layout k ≡ r = cc in
    rw (← z, set_access_back k s w) w

pair_number : (n m : ℕ) → pair_field (pair_of n) ≡ accepted m → pair_value (pair_of n) ≡ n
pair_number zero m e = refl
pair_number (suc zero) m e = refl
pair_number (suc (suc zero)) m e = refl
pair_number (suc (suc (suc n))) m e = absurd (apart (sym (ap pair_field (pair_reserved (suc (suc (suc n))) (omega arith))) ∙ e))

-- What is written from C is read as what was given, each flag as 0 or 1.
pub set_access_read : (n m l : ℕ) (a s : List ℕ) → set_access_request n m l a ≡ accepted s → set_access_record s ≡ accepted (n ∷ m ∷ l ∷ flagged 0 a)
set_access_read n m l a s e =
    let (made, em, w) = steps (command_for n (pair_of m) (pair_of l) (access_record a)) command_bytes e in
    let (c, ec, y) = steps (channel_of n) (λ c. accepted (command c (pair_of m) (pair_of l) (access_record a))) em in
    let k = command c (pair_of m) (pair_of l) (access_record a) in
    let z : k ≡ made = cc in
    let f : command_bytes k ≡ accepted s = ap command_bytes z ∙ w in
    let (x, ex, g) = steps (channel_field c) (λ x. parts_bytes k >>= λ p. accepted (x ∷ p)) f in
    let (p, ep, h) = steps (parts_bytes k) (λ p. accepted (x ∷ p)) g in
    let (i, j, t, ei, ej, et, o) = parts_are k p ep in
    rw (command_back k s f, value_new n c ec, pair_number m i ei, pair_number l j ej, record_laid a)
