-- Laws of a field: what `bits` of src/field.rt meets at each position and width.
use mathlib.Core.Path.{◌≡◌, refl, sym, ◌∙◌, ap}
use Prim.Native.Nat.{ℕ, zero, suc, ◌*◌, ◌/◌, ◌%◌, ◌^◌, ◌<◌, ◌≤◌}
use mathlib.Core.Bool.{Bool, true, false}
use mathlib.Core.List.{List, [], ◌∷◌}
use borrow.Author.Tests.{ltb-true, ltb-false}
use mir.Val.{bool_byte}
use lib.ListN.{length}
use lib.Dec.{lit<, eqb, ltb}
use native.Mathlib.Nat.{div-eq_of_lt, mod-eq_of_lt, zero-mod, one-mul, lt_of_lt_of_le, lt_of_le_of_lt}
use native.Mathlib.Omega.{arith}
use lib.Pow.{pow_mono, pow-lt, pow_pos, shr_le}
use Rattle.base.specs.Field.{bits, byte, flag, flags, within}
use Rattle.base.specs.Outcome.{Outcome, accepted, refused}
use Rattle.base.proofs.Outcome.{apart, Only, ranged, only_ranged}

-- a byte has no bit above 7
pub past : (at width byte : ℕ) → byte < 256 → 7 < at → 0 ≡ bits at width byte
past at width byte h p = sym (rw (div-eq_of_lt (lt_of_lt_of_le h (pow_mono {i = 8} {j = at} p))) (zero-mod (2 ^ width)))

pub all : (at width byte : ℕ) → byte < 256 → 7 < width → byte / 2 ^ at ≡ bits at width byte
all at width byte h p = sym (mod-eq_of_lt (lt_of_le_of_lt (shr_le byte at) (lt_of_lt_of_le h (pow_mono {i = 8} {j = width} p))))

-- the machine's 1 << width
pub power : (width : ℕ) → width ≤ 7 → 1 * 2 ^ width % 256 ≡ 2 ^ width
power width p = rw one-mul (mod-eq_of_lt (pow-lt {i = width} {j = 8} (omega arith)))

pub positive : (width : ℕ) → width ≤ 7 → 0 < 1 * 2 ^ width % 256
positive width p = rw (power width p) (pow_pos width)

pub bit_small : (b : Bool) → bool_byte b < 2
bit_small false = lit< tt
bit_small true = lit< tt

pub is_set : (b : Bool) → eqb (bool_byte b) 1 ≡ b
is_set true = refl
is_set false = refl

pub is_flag : (at n : ℕ) (b : Bool) → bits at 1 n ≡ bool_byte b → flag at n ≡ b
is_flag at n b e = rw e (is_set b)

-- A byte of flags: each flag read again. It is a byte.
module _ (b7 b6 b5 b4 b3 b2 b1 b0 : Bool) where
  pub flags_read : (flag 7 (flags b7 b6 b5 b4 b3 b2 b1 b0) ≡ b7)
      × (flag 6 (flags b7 b6 b5 b4 b3 b2 b1 b0) ≡ b6)
      × (flag 5 (flags b7 b6 b5 b4 b3 b2 b1 b0) ≡ b5)
      × (flag 4 (flags b7 b6 b5 b4 b3 b2 b1 b0) ≡ b4)
      × (flag 3 (flags b7 b6 b5 b4 b3 b2 b1 b0) ≡ b3)
      × (flag 2 (flags b7 b6 b5 b4 b3 b2 b1 b0) ≡ b2)
      × (flag 1 (flags b7 b6 b5 b4 b3 b2 b1 b0) ≡ b1)
      × (flag 0 (flags b7 b6 b5 b4 b3 b2 b1 b0) ≡ b0)
      × (flags b7 b6 b5 b4 b3 b2 b1 b0 < 256)
  flags_read =
      let f = flags b7 b6 b5 b4 b3 b2 b1 b0 in
      let s0 = bit_small b0 in
      let s1 = bit_small b1 in
      let s2 = bit_small b2 in
      let s3 = bit_small b3 in
      let s4 = bit_small b4 in
      let s5 = bit_small b5 in
      let s6 = bit_small b6 in
      let s7 = bit_small b7 in
      (is_flag 7 f b7 (omega arith), is_flag 6 f b6 (omega arith), is_flag 5 f b5 (omega arith), is_flag 4 f b4 (omega arith), is_flag 3 f b3 (omega arith), is_flag 2 f b2 (omega arith), is_flag 1 f b1 (omega arith), is_flag 0 f b0 (omega arith), omega arith)

-- f at each number below k, for a claim on all of them by one computed test, as that each number of a field, once read, is written again
abbrev pub up_to : {A : Type 0} → ℕ → (ℕ → A) → List A
up_to zero f = []
up_to (suc k) f = f k ∷ up_to k f

pub below : {A : Type 0} (k : ℕ) (f g : ℕ → A) → up_to k f ≡ up_to k g → (n : ℕ) → n < k → f n ≡ g n
below zero f g e n h = absurd (omega arith)
below (suc k) f g e n h = go (ltb n k) refl (below k f g (cc) n)
  where
    go : (x : Bool) → ltb n k ≡ x → (n < k → f n ≡ g n) → f n ≡ g n
    go true p lower = lower (ltb-true n k p)
    go false p lower = let l = ltb-false n k p in let z : n ≡ k = omega arith in rw z (cc)

-- n is none of the numbers below k: what the last arm of a match on 0, 1, .. knows
abbrev pub NoneOf : ℕ → ℕ → Type 0
NoneOf n zero = Unit {0}
NoneOf n (suc k) = NoneOf n k × (n ≡ k → ⊥)

pub none_of : (n k : ℕ) → NoneOf n k → k ≤ n
none_of n zero p = omega arith
none_of n (suc k) p = let h = none_of n k p.0 in let ne = p.1 in omega arith

-- What is written for m is refused by 9 alone, or is a number below the bound that is read as m:
abbrev pub Kept : {A : Type 0} → (ℕ → A) → ℕ → A → Outcome ℕ → Type 0
Kept read bound m field = Only 9 field × ((n : ℕ) → field ≡ accepted n → (n < bound) × (read n ≡ m))

-- one number, a number of a range, or none.
module _ {A : Type 0} (read : ℕ → A) (bound : ℕ) {m : A} where
  pub one : (k : ℕ) → k < bound → read k ≡ m → Kept read bound m (accepted k)
  one k h g = (refl, λ n e. let z : k ≡ n = cc in rw (← z) (h, g))

  pub ranging : (first last k : ℕ) → last < bound → (first ≤ k → k ≤ last → read k ≡ m) → Kept read bound m (within first last k)
  ranging first last k h g = (only_ranged k first last k 9, λ n e. let (l, u, z) = ranged k first last k 9 e in rw (← z) (omega arith, g l u))

  pub never : Kept read bound m (refused 9 [])
  never = (refl, λ n e. absurd (apart e))

-- What is read from a number has that number as its value, if it is so below k, which is computed, and past that.
pub valued : {A : Type 0} (value : A → ℕ) (read : ℕ → A) (k : ℕ) → up_to k (λ n. value (read n)) ≡ up_to k (λ n. n) → ((n : ℕ) → k ≤ n → value (read n) ≡ n) → (n : ℕ) → value (read n) ≡ n
valued value read k test past n = go (ltb n k) refl
  where
    go : (x : Bool) → ltb n k ≡ x → value (read n) ≡ n
    go true p = below k (λ n. value (read n)) (λ n. n) test n (ltb-true n k p)
    go false p = past n (ltb-false n k p)

-- A list is its bytes, one by one.

abbrev pub spelled : ℕ → ℕ → List ℕ → List ℕ
spelled at zero s = []
spelled at (suc k) s = byte at s ∷ spelled (suc at) k s

shifted : (a : ℕ) (s : List ℕ) (at k : ℕ) → spelled (suc at) k (a ∷ s) ≡ spelled at k s
shifted a s at zero = refl
shifted a s at (suc k) = ap (λ t. byte at s ∷ t) (shifted a s (suc at) k)

spelt : (s : List ℕ) → spelled 0 (length s) s ≡ s
spelt [] = refl
spelt (a ∷ s) = ap (λ t. a ∷ t) (shifted a s 0 (length s) ∙ spelt s)

-- one of k bytes is byte 0, byte 1 and so on to byte k - 1
pub so_long : (s : List ℕ) (k : ℕ) → length s ≡ k → spelled 0 k s ≡ s
so_long s k h = rw (← h) (spelt s)
