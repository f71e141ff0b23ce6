-- Laws of channels.
use mathlib.Core.Logic.{◌↔◌}
use mathlib.Core.Path.{◌≡◌, refl, sym}
use mathlib.Core.List.{List, []}
use mathlib.Core.Bool.{Bool, true, false}
use Rattle.std.specs.Prelude.{Some, None}
use Prim.Native.Nat.{ℕ, ◌≤◌, ◌<◌}
use native.Mathlib.Omega.{arith}
use borrow.Author.Tests.{eqb-true, ne_eqb, le-ltb}
use lib.Dec.{eqb, lit<}
use Rattle.std.specs.Prelude.{if◌then◌else◌}
use Rattle.base.specs.Connection.{channel_of, channel_number_of, channel_field, value_of, units, unit_of, unit_value}
use Rattle.base.specs.Field.{bits}
use Rattle.base.specs.Outcome.{Outcome, accepted, refused, ◌>>=◌}
use Rattle.base.specs.declared.connection.Channel.{Channel}
use Rattle.base.specs.declared.connection.Channel.TheVariants.{Primary, Numbered, Current, System}
use Rattle.base.specs.declared.connection.LogicalUnit.{LogicalUnit}
use Rattle.base.specs.declared.connection.LogicalUnit.TheVariants.{Zero, One, Two, Three}
use Rattle.base.proofs.Named.{nothing, name_iff}
use Rattle.base.proofs.Outcome.{apart, steps, Only, only_steps, only_refused, inside, ranged}
use Rattle.base.proofs.field.Laws.{Kept, one, ranging}

made : (n : ℕ) (c : Channel) → channel_of n ≡ accepted c → channel_field c ≡ accepted n
made n c e = go (eqb n 0) (eqb n 0xE) (eqb n 0xF) refl refl refl e
  where
    go : (x y z : Bool) → eqb n 0 ≡ x → eqb n 0xE ≡ y → eqb n 0xF ≡ z
        → (if x then accepted Primary else if y then accepted Current else if z then accepted System else (channel_number_of n >>= λ k. accepted (Numbered k))) ≡ accepted c
        → channel_field c ≡ accepted n
    go true y z p q r e = cc (eqb-true n 0 p)
    go false true z p q r e = cc (eqb-true n 0xE q)
    go false false true p q r e = cc (eqb-true n 0xF r)
    go false false false p q r e =
        let (k, f, g) = steps (channel_number_of n) (λ k. accepted (Numbered k)) e in
        let w = ranged n 1 0xB (record { 0 = n }) 6 f in
        cc (inside n 1 0xB n 9 w.0 w.1)

-- a channel is written in four bits, which make it again
channel_kept : (c : Channel) → Kept channel_of 16 (accepted c) (channel_field c)
channel_kept Primary = one channel_of 16 0 (lit< tt) refl
channel_kept (Numbered k) =
    ranging channel_of 16 1 0xB k.0 (lit< tt) λ l h. simp (ne_eqb k.0 0 (λ z. omega arith), ne_eqb k.0 0xE (λ z. omega arith), ne_eqb k.0 0xF (λ z. omega arith), le-ltb k.0 1 l, le-ltb 0xB k.0 h)
channel_kept Current = one channel_of 16 0xE (lit< tt) refl
channel_kept System = one channel_of 16 0xF (lit< tt) refl

-- a number makes exactly the channels that are written as it
pub channel_iff : (n : ℕ) (c : Channel) → channel_of n ≡ accepted c ↔ channel_field c ≡ accepted n
channel_iff n c = (made n c, λ e. ((channel_kept c).1 n e).1)

-- `Channel::value` gives back what `Channel::new` took
pub value_new : (n : ℕ) (c : Channel) → channel_of n ≡ accepted c → value_of c ≡ n
value_new n c e = go c (made n c e)
  where
    go : (c : Channel) → channel_field c ≡ accepted n → value_of c ≡ n
    go Primary e = cc
    go (Numbered k) e = (ranged k.0 1 0xB k.0 9 e).2
    go Current e = cc
    go System e = cc

-- and `Channel::new` makes again every channel that a number makes
pub new_value : (n : ℕ) (c : Channel) → channel_of n ≡ accepted c → channel_of (value_of c) ≡ accepted c
new_value n c e = rw (value_new n c e) e

pub channel_small : (c : Channel) (n : ℕ) → channel_field c ≡ accepted n → n < 16
channel_small c n e = ((channel_kept c).1 n e).0

-- A message that begins with a channel is refused by 9 alone, and exactly where no number makes the channel.
module _ (c : Channel) (message : ℕ → Outcome (List ℕ)) (rest : (n : ℕ) → Only 9 (message n)) where
  pub begins_only : Only 9 (channel_field c >>= message)
  begins_only = only_steps 9 (channel_field c) message (channel_kept c).0 rest

pub no_channel_form : (c : Channel) (message : ℕ → List ℕ) → (channel_field c >>= λ n. accepted (message n)) ≡ refused 9 [] ↔ ((n : ℕ) → channel_of n ≡ accepted c → ⊥)
no_channel_form c message = (
  (λ e n h. apart (sym (rw ((channel_iff n c).0 h) at e))),
  λ none. only_refused 9 (channel_field c >>= λ n. accepted (message n)) (begins_only c (λ n. accepted (message n)) (λ n. refl))
      λ s e. let (n, f, g) = steps (channel_field c) (λ n. accepted (message n)) e in none n ((channel_iff n c).1 f),
)

-- Units.

pub no_unit : (n : ℕ) → 3 < n → unit_of n ≡ None
no_unit n h = nothing units n h

-- `from_low_bits` and `try_from` agree where both name a unit
pub low_unit : (n : ℕ) → n ≤ 3 → unit_of (bits 0 2 n) ≡ unit_of n
low_unit n h = let z : bits 0 2 n ≡ n = omega arith in rw z

-- a number names exactly the unit whose value it is
pub unit_iff : (n : ℕ) (u : LogicalUnit) → unit_of n ≡ Some u ↔ unit_value u ≡ n
unit_iff = name_iff unit_value units refl (elim [ Zero ↦ refl | One ↦ refl | Two ↦ refl | Three ↦ refl ])
