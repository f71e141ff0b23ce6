-- Laws of Set Channel Access: the command, written and read.
use mathlib.Core.Logic.{◌↔◌}
use mathlib.Core.Path.{◌≡◌, refl, ◌∙◌}
use mathlib.Core.Bool.{Bool, true, false}
use mathlib.Core.List.{List, [], ◌∷◌}
use Prim.Native.Nat.{ℕ, ◌+◌, ◌*◌, ◌^◌, ◌≤◌, ◌<◌}
use native.Mathlib.Omega.{arith}
use borrow.Author.Tests.{ltb-true, ltb-false}
use lib.Dec.{eqb, ltb, lit<}
use lib.ListN.{get_or-eq_default, drop}
use mir.Val.{bool_byte}
use Rattle.base.specs.Connection.{channel_of, channel_field}
use Rattle.base.specs.Field.{byte, bits, flag, within, Bytes}
use Rattle.base.specs.Outcome.{Outcome, accepted, ◌>>=◌}
use Rattle.base.proofs.Outcome.{apart, steps, Only, only_steps, ranged}
use Rattle.base.proofs.Rows.{NoForm, nine, Strict, strict}
use Rattle.base.proofs.connection.Laws.{begins_only, channel_iff, channel_small}
use Rattle.base.proofs.field.Laws.{below, Kept, one, never, so_long}
use Rattle.base.proofs.little.Laws.{a_byte}
use Rattle.access.specs.GetChannelAccess.{access_bytes, access_fields, access_of}
use Rattle.access.proofs.get_channel_access.Laws.{access_back, access_bytes_lem, access_given, access_only, access_two, limit_given, mode_given, first}
use Rattle.set_access.specs.SetChannelAccess.{command, command_bytes, command_of, pairs, pair_of, pair_field, pair_in, parts_bytes, pair_value}
use Rattle.set_access.specs.declared.set_channel_access.AccessPair.{AccessPair}
use Rattle.set_access.specs.declared.set_channel_access.AccessPair.TheVariants.{Leave, NonVolatile, Volatile, Reserved}
use Rattle.set_access.specs.declared.set_channel_access.SetChannelAccess.{SetChannelAccess}

-- Pairs: a number that is read is written again, and what is written is read again.

pub pair_reserved : (n : ℕ) → 3 ≤ n → pair_of n ≡ Reserved
pair_reserved n h = get_or-eq_default pairs Reserved h

pair_given : (n : ℕ) → n < 3 → pair_field (pair_of n) ≡ accepted n
pair_given n h = below 3 (λ n. pair_field (pair_of n)) accepted refl n h

pub pair_kept : (p : AccessPair) → Kept pair_of 3 p (pair_field p)
pair_kept Leave = one pair_of 3 0 (lit< tt) refl
pair_kept NonVolatile = one pair_of 3 1 (lit< tt) refl
pair_kept Volatile = one pair_of 3 2 (lit< tt) refl
pair_kept Reserved = never pair_of 3

-- The value is the two bits as they were read, and what is in a field is the value.

pub pair_value_lem : (n : ℕ) → n < 4 → pair_value (pair_of n) ≡ n
pair_value_lem n h = below 4 (λ n. pair_value (pair_of n)) (λ n. n) refl n h

pub pair_field_lem : (p : AccessPair) (n : ℕ) → pair_field p ≡ accepted n → pair_value p ≡ n
pair_field_lem p n e = let (small, z) = (pair_kept p).1 n e in rw (← z) (pair_value_lem n (omega arith))

pair_iff : (byte : ℕ) (p : AccessPair) → pair_in byte ≡ accepted p ↔ pair_field p ≡ accepted (bits 6 2 byte)
pair_iff byte p = (go (ltb (bits 6 2 byte) 3) refl, λ e. let z = ((pair_kept p).1 (bits 6 2 byte) e).1 in rw (z, e))
  where
    go : (x : Bool) → ltb (bits 6 2 byte) 3 ≡ x → pair_in byte ≡ accepted p → pair_field p ≡ accepted (bits 6 2 byte)
    go true h e =
        let g = pair_given (bits 6 2 byte) (ltb-true (bits 6 2 byte) 3 h) in
        let z : pair_of (bits 6 2 byte) ≡ p = cc (rw g at e) in
        rw (← z) g
    go false h e = absurd (apart (rw (pair_reserved (bits 6 2 byte) (ltb-false (bits 6 2 byte) 3 h)) at e))

-- The fields of bytes 1 and 2, written again: what stands below the pairs.

pub is_bit : (at n : ℕ) → bool_byte (flag at n) ≡ bits at 1 n
is_bit at n = below 2 (λ b. bool_byte (eqb b 1)) (λ b. b) refl (bits at 1 n) (omega arith)

again : (y z : ℕ) → access_bytes (access_fields y z) ≡ accepted (bits 0 6 y ∷ bits 0 4 z ∷ [])
again y z =
    let b4 : bits 0 3 y + bits 3 1 y * 2 ^ 3 ≡ bits 0 4 y = omega arith in
    let b5 : bits 0 4 y + bits 4 1 y * 2 ^ 4 ≡ bits 0 5 y = omega arith in
    let b6 : bits 0 5 y + bits 5 1 y * 2 ^ 5 ≡ bits 0 6 y = omega arith in
    rw
    (mode_given (bits 0 3 y) (omega arith), limit_given (bits 0 4 z) (omega arith), is_bit 3 y, is_bit 4 y, is_bit 5 y, b4, b5, b6)

-- a pair above the fields of a byte changes none
beside : (f l m n : ℕ) → f < 64 → l < 16 → access_fields (f + m * 2 ^ 6) (l + n * 2 ^ 6) ≡ access_fields f l
beside f l m n h g =
    let y = f + m * 2 ^ 6 in
    let z = l + n * 2 ^ 6 in
    let b0 : bits 0 3 y ≡ bits 0 3 f = omega arith in
    let b3 : bits 3 1 y ≡ bits 3 1 f = omega arith in
    let b4 : bits 4 1 y ≡ bits 4 1 f = omega arith in
    let b5 : bits 5 1 y ≡ bits 5 1 f = omega arith in
    let l0 : bits 0 4 z ≡ bits 0 4 l = omega arith in
    rw (b0, b3, b4, b5, l0)

-- the reader on three bytes
module _ (x y z : ℕ) (k : SetChannelAccess) where
  abbrev reading : Outcome SetChannelAccess
  reading =
      channel_of x >>= λ c. pair_in y >>= λ m. pair_in z >>= λ l. within 0 0 (bits 4 2 z) >>= λ r. accepted (command c m l (access_fields y z))

  taken : y < 256 → z < 256 → reading ≡ accepted k → command_bytes k ≡ accepted (x ∷ y ∷ z ∷ [])
  taken hy hz e =
      let (c, ec, f) = steps (channel_of x) (λ c. pair_in y >>= λ m. pair_in z >>= λ l. within 0 0 (bits 4 2 z) >>= λ r. accepted (command c m l (access_fields y z))) e in
      let (m, em, g) = steps (pair_in y) (λ m. pair_in z >>= λ l. within 0 0 (bits 4 2 z) >>= λ r. accepted (command c m l (access_fields y z))) f in
      let (l, el, h) = steps (pair_in z) (λ l. within 0 0 (bits 4 2 z) >>= λ r. accepted (command c m l (access_fields y z))) g in
      let (r, er, i) = steps (within 0 0 (bits 4 2 z)) (λ r. accepted (command c m l (access_fields y z))) h in
      let clear = ranged (bits 4 2 z) 0 0 (bits 4 2 z) 9 {b = r} er in
      let same : command c m l (access_fields y z) ≡ k = cc in
      let whole-y : bits 0 6 y + bits 6 2 y * 2 ^ 6 ≡ y = omega arith in
      let whole-z : bits 0 4 z + bits 6 2 z * 2 ^ 6 ≡ z = let low = clear.1 in omega arith in
      rw (← same, (channel_iff x c).0 ec, (pair_iff y m).0 em, (pair_iff z l).0 el, again y z, whole-y, whole-z)

-- bytes 1 and 2, and what they were written from
pub parts_are : (k : SetChannelAccess) (p : List ℕ) → parts_bytes k ≡ accepted p
    → (m : ℕ) × (l : ℕ) × (t : List ℕ) × (pair_field k.mode_pair ≡ accepted m) × (pair_field k.limit_pair ≡ accepted l) × (access_bytes k.access ≡ accepted t)
    × (◌≡◌ {A = List ℕ} ((byte 0 t + m * 2 ^ 6) ∷ (byte 1 t + l * 2 ^ 6) ∷ []) p)
parts_are k p e =
    let (m, em, f) = steps (pair_field k.mode_pair) (λ m. pair_field k.limit_pair >>= λ l. access_bytes k.access >>= λ t. accepted ((byte 0 t + m * 2 ^ 6) ∷ (byte 1 t + l * 2 ^ 6) ∷ [])) e in
    let (l, el, g) = steps (pair_field k.limit_pair) (λ l. access_bytes k.access >>= λ t. accepted ((byte 0 t + m * 2 ^ 6) ∷ (byte 1 t + l * 2 ^ 6) ∷ [])) f in
    let (t, ea, h) = steps (access_bytes k.access) (λ t. accepted ((byte 0 t + m * 2 ^ 6) ∷ (byte 1 t + l * 2 ^ 6) ∷ [])) g in
    (m, l, t, em, el, ea, cc)

-- what the writer wrote, read again
given : (k : SetChannelAccess) (x m l : ℕ) (t : List ℕ) → channel_field k.channel ≡ accepted x → pair_field k.mode_pair ≡ accepted m
    → pair_field k.limit_pair ≡ accepted l → access_bytes k.access ≡ accepted t
    → reading x (byte 0 t + m * 2 ^ 6) (byte 1 t + l * 2 ^ 6) k ≡ accepted k
given k x m l t ec em el ea =
    let (long, f, g) = access_two k.access ea in
    let (sm, _) = (pair_kept k.mode_pair).1 m em in
    let (sl, _) = (pair_kept k.limit_pair).1 l el in
    let y = byte 0 t + m * 2 ^ 6 in
    let z = byte 1 t + l * 2 ^ 6 in
    let pm : bits 6 2 y ≡ m = omega arith in
    let pl : bits 6 2 z ≡ l = omega arith in
    let clear : bits 4 2 z ≡ 0 = omega arith in
    let back : access_fields (byte 0 t) (byte 1 t) ≡ k.access = cc (rw (← so_long t 2 long) at (access_back k.access t ea)) in
    rw ((channel_iff x k.channel).1 ec, (pair_iff y k.mode_pair).1 (em ∙ rw pm), (pair_iff z k.limit_pair).1 (el ∙ rw pl), clear, beside (byte 0 t) (byte 1 t) m l f g, back)

-- Row 10: exactly what some command writes is read, and every other string of bytes is refused 10.
pub command_strict : Strict command_of (λ k s. command_bytes k ≡ accepted s)
command_strict =
    strict 3 (λ s. channel_of (byte 0 s) >>= λ c. pair_in (byte 1 s) >>= λ m. pair_in (byte 2 s) >>= λ l. within 0 0 (bits 4 2 (byte 2 s)) >>= λ r. access_of (drop 1 s) >>= λ a. accepted (command c m l a)) _
    (λ s k b l e. let z = so_long s 3 l in rw (← z) (taken (byte 0 s) (byte 1 s) (byte 2 s) k (a_byte s b 1) (a_byte s b 2) (rw (← z) at e)))
    λ s k e. let (x, ec, f) = steps (channel_field k.channel) (λ x. parts_bytes k >>= λ p. accepted (x ∷ p)) e in
    let (p, ep, g) = steps (parts_bytes k) (λ p. accepted (x ∷ p)) f in
    let (m, l, t, em, el, ea, h) = parts_are k p ep in
    let (long, first, second) = access_two k.access ea in
    let sx = channel_small k.channel x ec in
    let sm = ((pair_kept k.mode_pair).1 m em).0 in
    let sl = ((pair_kept k.limit_pair).1 l el).0 in
    let z : ◌≡◌ {A = List ℕ} (x ∷ (byte 0 t + m * 2 ^ 6) ∷ (byte 1 t + l * 2 ^ 6) ∷ []) s = cc in
    rw (← z) ((omega arith, (omega arith, (omega arith, tt))), refl {a = 3}, given k x m l t ec em el ea)

pub command_iff : (s : List ℕ) (k : SetChannelAccess) → Bytes s → command_of s ≡ accepted k ↔ command_bytes k ≡ accepted s
command_iff = command_strict.iff

pub command_back : (k : SetChannelAccess) (s : List ℕ) → command_bytes k ≡ accepted s → command_of s ≡ accepted k
command_back k s e = (command_iff s k (command_strict.bytes s k e)).1 e

-- A command is refused by 9 alone.

pub parts_only : (k : SetChannelAccess) → Only 9 (parts_bytes k)
parts_only k =
    only_steps 9 (pair_field k.mode_pair) _ (pair_kept k.mode_pair).0 λ m. only_steps 9 (pair_field k.limit_pair) _ (pair_kept k.limit_pair).0 λ l. only_steps 9 (access_bytes k.access) _ (access_only k.access) λ t. refl

command_only : (k : SetChannelAccess) → Only 9 (command_bytes k)
command_only k = begins_only k.channel (λ x. parts_bytes k >>= λ p. accepted (x ∷ p)) λ x. only_steps 9 (parts_bytes k) _ (parts_only k) λ p. refl

-- Row 9, on writing: exactly where no request, a string of bytes, gives the command.
pub command_no_form : (k : SetChannelAccess) → NoForm command_of command_bytes k
command_no_form k = nine command_of command_bytes k (command_only k) (λ s e. (command_strict.bytes s k e, command_back k s e)) (λ s b g. (s, (command_iff s k b).0 g))

-- Bytes 1 and 2 have a form exactly where neither pair is 11 and some Get response gives the mode and the limit.
pub parts_form : (k : SetChannelAccess) → ((p : List ℕ) × (parts_bytes k ≡ accepted p))
    ↔ ((k.mode_pair ≡ Reserved → ⊥) × (k.limit_pair ≡ Reserved → ⊥) × ((s : List ℕ) × Bytes s × (access_of s ≡ accepted k.access)))
parts_form k = (
  (λ (p, e). let (m, l, t, em, el, ea, h) = parts_are k p e in (unreserved k.mode_pair em, unreserved k.limit_pair el, (t, access_bytes_lem k.access t ea, access_back k.access t ea))),
  λ (h, i, (s, b, g)). let (m, em) = legal k.mode_pair h in
      let (l, el) = legal k.limit_pair i in
      let (t, ea) = access_given s k.access g in
      (((byte 0 t + m * 2 ^ 6) ∷ (byte 1 t + l * 2 ^ 6) ∷ []), rw (em, el, ea)),
)
  where
    unreserved : (p : AccessPair) {n : ℕ} → pair_field p ≡ accepted n → p ≡ Reserved → ⊥
    unreserved p e z = apart (rw z at e)

    legal : (p : AccessPair) → (p ≡ Reserved → ⊥) → (n : ℕ) × (pair_field p ≡ accepted n)
    legal Leave h = (0, refl)
    legal NonVolatile h = (1, refl)
    legal Volatile h = (2, refl)
    legal Reserved h = absurd (h refl)
