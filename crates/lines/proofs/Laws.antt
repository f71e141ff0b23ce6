-- Laws of hex pairs, of decimal digits, of newlines and of what is kept of a block.
use mathlib.Core.Path.{◌≡◌, refl, sym, ◌∙◌, ap, subst}
use mathlib.Core.Bool.{Bool, true, false}
use mathlib.Core.List.{List, [], ◌∷◌, ◌++◌, append_assoc, append-nil}
use Prim.Native.Nat.{ℕ, zero, suc, ◌+◌, ◌-◌, ◌*◌, ◌/◌, ◌%◌, ◌≤◌, ◌<◌, max, min}
use native.Mathlib.Omega.{arith}
use borrow.Author.Count.{below_more}
use borrow.Author.Tests.{ltb-true, ltb-false, eqb-true, eqb-false, lt-ltb, le-ltb, eq-eqb, ne_eqb}
use lib.Dec.{eqb, ltb}
use lib.ListN.{length, get_or, take, drop, length-append, length-take, length-drop}
use lib.Seq.{paste, length-take-le, take_all, take-take}
use Rattle.std.specs.Prelude.{Option, Some, None, if◌then◌else◌}
use Rattle.std.specs.Fmt.{digits_onto, digit_glyph}
use Rattle.std.specs.Fmt.{decimal as library}
use Rattle.std.specs.Fmt.{digits as library_digits}
use Rattle.memchr.specs.Find.{IsFirstByte, is_byte}
use Rattle.base.specs.Choice.{if◌from◌to◌then◌else◌}
use Rattle.base.specs.Outcome.{Outcome, accepted, refused, ◌>>=◌, is_accepted}
use Rattle.base.specs.Text.{digit}
use Rattle.base.specs.Verdict.{record_of}
use Rattle.base.proofs.Outcome.{apart, steps, Only, only_steps, only_refused}
use Rattle.lines.specs.Lines.{Keeps, between, decimal, digit_of, digits, line_length, newline, newline_from, pair_of, pairs_of, space}

no : {A : Type 0} → false ≡ true → A
no e = let z : ◌≡◌ {A = ℕ} 0 1 = cc in absurd (omega arith)

-- what a choice by a range accepts
picked : (P : ℕ → Type 0) (b first last v : ℕ) (other : Outcome ℕ) → (first ≤ b → b ≤ last → P v) → ((n : ℕ) → other ≡ accepted n → P n)
    → (n : ℕ) → (if b from first to last then accepted v else other) ≡ accepted n → P n
picked P b first last v other p q n = go (ltb b first) (ltb last b) refl refl
  where
    go : (x y : Bool) → ltb b first ≡ x → ltb last b ≡ y → (if x then other else if y then other else accepted v) ≡ accepted n → P n
    go true y f g e = q n e
    go false true f g e = q n e
    go false false f g e = let z : v ≡ n = cc in subst P z (p (ltb-false b first f) (ltb-false last b g))

-- a digit is no space, and its value is below 16 and comes of its byte's two halves
abbrev pub Digit : ℕ → ℕ → Type 0
Digit b n = (n < 16) × ((b % 16 + 9 * (b / 64)) % 16 ≡ n) × (b ≡ space → ⊥)

pub digit_is : (b n : ℕ) → digit_of b ≡ accepted n → Digit b n
digit_is b =
    picked (Digit b) b 0x30 0x39 (b - 0x30) _ (λ l h. at 0 (b - 0x30) (omega arith) (omega arith) (omega arith) (omega arith) (λ e. omega arith))
    (picked (Digit b) b 0x41 0x46 (b - 0x37) _ (λ l h. at 1 (b - 0x40) (omega arith) (omega arith) (omega arith) (omega arith) (λ e. omega arith))
    (picked (Digit b) b 0x61 0x66 (b - 0x57) _ (λ l h. at 1 (b - 0x60) (omega arith) (omega arith) (omega arith) (omega arith) (λ e. omega arith)) (λ n e. absurd (apart e))))
  where
    at : (high low : ℕ) {n : ℕ} → b / 64 ≡ high → b % 16 ≡ low → n ≡ low + 9 * high → n < 16 → (b ≡ space → ⊥) → Digit b n
    at high low p q r s t = (s, rw (p, q) (omega arith), t)

-- a pair's byte is that of two digits
pub pair_is : (a b c n : ℕ) → pair_of a b c ≡ accepted n → (h : ℕ) × (l : ℕ) × (digit_of b ≡ accepted h) × (digit_of c ≡ accepted l) × (16 * h + l ≡ n)
pair_is a b c n = go (eqb a space)
  where
    go : (x : Bool) → (if x then (digit_of b >>= λ h. digit_of c >>= λ l. accepted (16 * h + l)) else refused 14 []) ≡ accepted n
        → (h : ℕ) × (l : ℕ) × (digit_of b ≡ accepted h) × (digit_of c ≡ accepted l) × (16 * h + l ≡ n)
    go true e =
        let (h, p, f) = steps (digit_of b) (λ h. digit_of c >>= λ l. accepted (16 * h + l)) e in
        let (l, q, g) = steps (digit_of c) (λ l. accepted (16 * h + l)) f in
        (h, l, p, q, cc)
    go false e = absurd (apart e)

pub pair_small : (a b c n : ℕ) → pair_of a b c ≡ accepted n → n < 256
pair_small a b c n e = let (h, l, p, q, z) = pair_is a b c n e in omega (arith, digit_is b h p, digit_is c l q)

-- Hex pairs.

-- 0 of what is accepted
abbrev flag : Outcome ℕ → ℕ
flag o = if is_accepted o then 0 else 2

abbrev pub no_space : ℕ → ℕ
no_space b = if eqb b space then 0 else 1

abbrev pub no_digit : ℕ → ℕ
no_digit b = flag (digit_of b)

flag_range : (b first last v : ℕ) (o : Outcome ℕ) → (if b from first to last then 0 else flag o) ≡ flag (if b from first to last then accepted v else o)
flag_range b first last v o = go (ltb b first) (ltb last b)
  where
    go : (x y : Bool) → (if x then flag o else if y then flag o else 0) ≡ flag (if x then o else if y then o else accepted v)
    go true y = refl
    go false true = refl
    go false false = refl

pub digit_by_ranges : (b : ℕ) → (if b from 0x30 to 0x39 then 0 else if b from 0x41 to 0x46 then 0 else if b from 0x61 to 0x66 then 0 else 2) ≡ no_digit b
digit_by_ranges b =
    let z = flag_range b 0x61 0x66 (b - 0x57) (refused 14 []) in
    let y = flag_range b 0x41 0x46 (b - 0x37) (if b from 0x61 to 0x66 then accepted (b - 0x57) else refused 14 []) in
    rw (z, y) (flag_range b 0x30 0x39 (b - 0x30) _)

-- 0 where the byte at a place of pairs is one that may stand there
abbrev wants : ℕ → ℕ → ℕ
wants k b = if eqb (k % 3) 0 then no_space b else no_digit b

-- what a byte three before asks for
abbrev pub strays : ℕ → ℕ → ℕ
strays a b = if eqb a space then no_space b else no_digit b

follows : (k a b : ℕ) → wants k a ≡ 0 → strays a b ≡ wants (k + 3) b
follows k a b = let m : (k + 3) % 3 ≡ k % 3 = omega arith in rw m (go (eqb (k % 3) 0) (eqb a space) (digit_of a) refl refl)
  where
    go : (x y : Bool) (o : Outcome ℕ) → eqb a space ≡ y → digit_of a ≡ o → (if x then (if y then 0 else 1) else flag o) ≡ 0 → (if y then no_space b else no_digit b) ≡ (if x then no_space b else no_digit b)
    go true true o p q e = refl
    go true false o p q e = absurd (omega arith)
    go false y (refused n v) p q e = absurd (omega arith)
    go false true (accepted n) p q e = absurd ((digit_is a n q).2 (eqb-true a space p))
    go false false (accepted n) p q e = refl

abbrev Right : List ℕ → ℕ → Type 0
Right text n = (k : ℕ) → k < n → wants k (get_or text k 0) ≡ 0

pair_by : (a b c : ℕ) → is_accepted (pair_of a b c) ≡ eqb (max (no_space a) (max (no_digit b) (no_digit c))) 0
pair_by a b c = go (eqb a space) (digit_of b) (digit_of c)
  where
    go : (t : Bool) (x y : Outcome ℕ) → is_accepted (if t then (x >>= λ h. y >>= λ l. accepted (16 * h + l)) else refused 14 []) ≡ eqb (max (if t then 0 else 1) (max (flag x) (flag y))) 0
    go true (accepted h) (accepted l) = refl
    go true (accepted h) (refused n v) = refl
    go true (refused n v) (accepted l) = refl
    go true (refused n v) (refused m w) = refl
    go false (accepted h) (accepted l) = refl
    go false (accepted h) (refused n v) = refl
    go false (refused n v) (accepted l) = refl
    go false (refused n v) (refused m w) = refl

both : (p : Outcome ℕ) (q : Outcome (List ℕ)) → is_accepted (p >>= λ byte. q >>= λ bytes. accepted (byte ∷ bytes)) ≡ (if is_accepted p then is_accepted q else false)
both (accepted a) (accepted b) = refl
both (accepted a) (refused n v) = refl
both (refused n v) q = refl

three : (x y z : ℕ) → max x (max y z) ≡ 0 → (x ≡ 0) × (y ≡ 0) × (z ≡ 0)
three x y z e = (omega arith, omega arith, omega arith)

none_of : (x y z : ℕ) → x ≡ 0 → y ≡ 0 → z ≡ 0 → max x (max y z) ≡ 0
none_of x y z p q r = omega arith

-- a place behind three bytes more is asked for the same
behind : (k : ℕ) → suc (suc (suc k)) % 3 ≡ k % 3
behind k = omega arith

-- pairs are right at every place

pairs_right : (text : List ℕ) → is_accepted (pairs_of text) ≡ true → (length text % 3 ≡ 0) × Right text (length text)
unfolding pairs_of
pairs_right [] e = (refl, λ k h. absurd (omega arith))
pairs_right (a ∷ []) e = no e
pairs_right (a ∷ b ∷ []) e = no e
pairs_right (a ∷ b ∷ c ∷ text) e = go (is_accepted (pair_of a b c)) (is_accepted (pairs_of text)) refl (λ q. pairs_right text q) (sym (both (pair_of a b c) (pairs_of text)) ∙ e)
  where
    at : (no_space a ≡ 0) × (no_digit b ≡ 0) × (no_digit c ≡ 0) → Right text (length text) → Right (a ∷ b ∷ c ∷ text) (suc (suc (suc (length text))))
    at z r zero h = z.0
    at z r (suc zero) h = z.1
    at z r (suc (suc zero)) h = z.2
    at z r (suc (suc (suc k))) h = rw (behind k) (r k (omega arith))

    go : (x y : Bool) → is_accepted (pair_of a b c) ≡ x → (y ≡ true → (length text % 3 ≡ 0) × Right text (length text)) → (if x then y else false) ≡ true
        → (suc (suc (suc (length text))) % 3 ≡ 0) × Right (a ∷ b ∷ c ∷ text) (suc (suc (suc (length text))))
    go true true p q f =
        let (m, r) = q refl in
        (behind (length text) ∙ m, at (three (no_space a) (no_digit b) (no_digit c) (eqb-true _ 0 (sym (pair_by a b c) ∙ p))) r)
    go true false p q f = no f
    go false y p q f = no f

-- and what is right at every place is pairs

right_pairs : (text : List ℕ) → length text % 3 ≡ 0 → Right text (length text) → is_accepted (pairs_of text) ≡ true
unfolding pairs_of
right_pairs [] m r = refl
right_pairs (a ∷ []) m r = absurd (omega arith)
right_pairs (a ∷ b ∷ []) m r = absurd (omega arith)
right_pairs (a ∷ b ∷ c ∷ text) m r =
    let p : is_accepted (pair_of a b c) ≡ true = pair_by a b c ∙ eq-eqb _ 0 (none_of (no_space a) (no_digit b) (no_digit c) (r 0 (omega arith)) (r 1 (omega arith)) (r 2 (omega arith))) in
    let q = right_pairs text (sym (behind (length text)) ∙ m) (λ k h. rw (behind k) at (r (suc (suc (suc k))) (omega arith))) in
    both (pair_of a b c) (pairs_of text) ∙ rw p q

-- How far a text was held to be right: 0 so long as it is.
abbrev pub Held : List ℕ → ℕ → ℕ → Type 0
Held text i worst = (worst ≡ 0 → Right text i) × (Right text (length text) → worst ≡ 0)

module _ (text : List ℕ) where
  pub held_first : 3 ≤ length text → Held text 3 (max (no_space (get_or text 0 0)) (max (no_digit (get_or text 1 0)) (no_digit (get_or text 2 0))))
  held_first h = (λ e. at (three (no_space (get_or text 0 0)) (no_digit (get_or text 1 0)) (no_digit (get_or text 2 0)) e), λ r. none_of _ _ _ (r 0 (omega arith)) (r 1 (omega arith)) (r 2 (omega arith)))
    where
      at : (no_space (get_or text 0 0) ≡ 0) × (no_digit (get_or text 1 0) ≡ 0) × (no_digit (get_or text 2 0) ≡ 0) → Right text 3
      at z zero h = z.0
      at z (suc zero) h = z.1
      at z (suc (suc zero)) h = z.2
      at z (suc (suc (suc k))) h = absurd (omega arith)

  pub held_next : (i worst : ℕ) → 3 ≤ i → i < length text → Held text i worst → Held text (i + 1) (max worst (strays (get_or text (i - 3) 0) (get_or text i 0)))
  held_next i worst l h (v, w) = (λ e. let r = v (larger_none worst _ e).0 in below_more _ _ r (sym (same (r (i - 3) (omega arith))) ∙ (larger_none worst _ e).1), λ r. larger_of worst _ (w r) (same (r (i - 3) (omega arith)) ∙ r i h))
    where
      back : i - 3 + 3 ≡ i
      back = omega arith

      same : wants (i - 3) (get_or text (i - 3) 0) ≡ 0 → strays (get_or text (i - 3) 0) (get_or text i 0) ≡ wants i (get_or text i 0)
      same e = follows (i - 3) (get_or text (i - 3) 0) (get_or text i 0) e ∙ ap (λ (k : ℕ). wants k (get_or text i 0)) back

      larger_none : (x y : ℕ) → max x y ≡ 0 → (x ≡ 0) × (y ≡ 0)
      larger_none x y e = (omega arith, omega arith)

      larger_of : (x y : ℕ) → x ≡ 0 → y ≡ 0 → max x y ≡ 0
      larger_of x y p q = omega arith

  pub held_end : (i worst : ℕ) → i ≡ length text → length text % 3 ≡ 0 → Held text i worst → eqb worst 0 ≡ is_accepted (pairs_of text)
  held_end i worst e m (v, w) = go (eqb worst 0) (is_accepted (pairs_of text)) refl refl
    where
      go : (x y : Bool) → eqb worst 0 ≡ x → is_accepted (pairs_of text) ≡ y → x ≡ y
      go true y p q = sym (right_pairs text m (rw e at (v (eqb-true worst 0 p)))) ∙ q
      go false true p q = absurd (eqb-false worst 0 p (w (pairs_right text q).1))
      go false false p q = refl

  pub none : length text ≡ 0 → true ≡ is_accepted (pairs_of text)
  none e = sym (right_pairs text (omega arith) (λ k h. absurd (omega arith)))

  pub uneven : (length text % 3 ≡ 0 → ⊥) → false ≡ is_accepted (pairs_of text)
  uneven n = go (is_accepted (pairs_of text)) refl
    where
      go : (x : Bool) → is_accepted (pairs_of text) ≡ x → false ≡ x
      go true p = absurd (n (pairs_right text p).0)
      go false p = refl

pub bytes_at : (text bytes : List ℕ) → pairs_of text ≡ accepted bytes → (length text ≡ 3 * length bytes)
    × ((i : ℕ) → i < length bytes → pair_of (get_or text (3 * i) 0) (get_or text (3 * i + 1) 0) (get_or text (3 * i + 2) 0) ≡ accepted (get_or bytes i 0))
unfolding pairs_of
bytes_at [] bytes e = let z : bytes ≡ [] = cc in rw z (refl, λ i h. absurd (omega arith))
bytes_at (a ∷ []) bytes e = absurd (apart e)
bytes_at (a ∷ b ∷ []) bytes e = absurd (apart e)
bytes_at (a ∷ b ∷ c ∷ text) bytes e =
    let (byte, p, f) = steps (pair_of a b c) (λ byte. pairs_of text >>= λ bytes. accepted (byte ∷ bytes)) e in
    let (rest, q, g) = steps (pairs_of text) (λ bytes. accepted (byte ∷ bytes)) f in
    let z : bytes ≡ byte ∷ rest = cc in
    let (l, k) = bytes_at text rest q in
    rw z (omega arith, at byte rest p k)
  where
    at : (byte : ℕ) (rest : List ℕ) → pair_of a b c ≡ accepted byte
        → ((i : ℕ) → i < length rest → pair_of (get_or text (3 * i) 0) (get_or text (3 * i + 1) 0) (get_or text (3 * i + 2) 0) ≡ accepted (get_or rest i 0))
        → (i : ℕ) → i < suc (length rest) → pair_of (get_or (a ∷ b ∷ c ∷ text) (3 * i) 0) (get_or (a ∷ b ∷ c ∷ text) (3 * i + 1) 0) (get_or (a ∷ b ∷ c ∷ text) (3 * i + 2) 0) ≡ accepted (get_or (byte ∷ rest) i 0)
    at byte rest p k zero h = p
    at byte rest p k (suc i) h =
        let x : 3 * suc i ≡ suc (suc (suc (3 * i))) = omega arith in
        let y : 3 * suc i + 1 ≡ suc (suc (suc (3 * i + 1))) = omega arith in
        let z : 3 * suc i + 2 ≡ suc (suc (suc (3 * i + 2))) = omega arith in
        rw (y, z, x) (k i (omega arith))

-- the bytes of a text, none where it is not pairs
abbrev pub bytes_of : List ℕ → List ℕ
bytes_of text = record_of [] (pairs_of text)

given : {A : Type 0} (empty : A) (o : Outcome A) → is_accepted o ≡ true → o ≡ accepted (record_of empty o)
given empty (accepted a) e = refl
given empty (refused n v) e = no e

pub read : (text : List ℕ) → is_accepted (pairs_of text) ≡ true → pairs_of text ≡ accepted (bytes_of text)
read text = given [] (pairs_of text)

only_range : {A : Type 0} (k n first last : ℕ) (a b : Outcome A) → Only k a → Only k b → Only k (if n from first to last then a else b)
only_range k n first last a b p q = go (ltb n first) (ltb last n)
  where
    go : (x y : Bool) → Only k (if x then b else if y then b else a)
    go true y = q
    go false true = q
    go false false = p

only_digit : (b : ℕ) → Only 14 (digit_of b)
only_digit b = only_range 14 b 0x30 0x39 _ _ refl (only_range 14 b 0x41 0x46 _ _ refl (only_range 14 b 0x61 0x66 _ _ refl refl))

only_pair : (a b c : ℕ) → Only 14 (pair_of a b c)
only_pair a b c = go (eqb a space)
  where
    go : (x : Bool) → Only 14 (if x then (digit_of b >>= λ h. digit_of c >>= λ l. accepted (16 * h + l)) else refused 14 [])
    go true = only_steps 14 (digit_of b) _ (only_digit b) (λ h. only_steps 14 (digit_of c) _ (only_digit c) (λ l. refl))
    go false = refl

pub only_pairs : (text : List ℕ) → Only 14 (pairs_of text)
unfolding pairs_of
only_pairs [] = refl
only_pairs (a ∷ []) = refl
only_pairs (a ∷ b ∷ []) = refl
only_pairs (a ∷ b ∷ c ∷ text) = only_steps 14 (pair_of a b c) _ (only_pair a b c) (λ byte. only_steps 14 (pairs_of text) _ (only_pairs text) (λ bytes. refl))

pub unread : (text : List ℕ) → is_accepted (pairs_of text) ≡ false → pairs_of text ≡ refused 14 []
unread text e = only_refused 14 (pairs_of text) (only_pairs text) (λ bytes f. no (sym e ∙ ap is_accepted f))

-- Decimal digits.

enough : (f g n : ℕ) → n ≤ f → n ≤ g → digits f n ≡ digits g n
unfolding digits
enough zero zero n p q = refl
enough zero (suc g) n p q = simp (lt-ltb n 10 (omega arith))
enough (suc f) zero n p q = simp (lt-ltb n 10 (omega arith))
enough (suc f) (suc g) n p q = rw (enough f g (n / 10) (omega arith) (omega arith))

one_digit : (n : ℕ) → n < 10 → decimal n ≡ digit n ∷ []
unfolding digits
one_digit zero h = refl
one_digit (suc n) h = simp (lt-ltb (suc n) 10 h)

more_digits : (n : ℕ) → 10 ≤ n → decimal n ≡ decimal (n / 10) ++ (digit (n % 10) ∷ [])
unfolding digits
more_digits zero h = absurd (omega arith)
more_digits (suc n) h = simp (le-ltb (suc n) 10 h) (rw (enough n (suc n / 10) (suc n / 10) (omega arith) (omega arith)))

-- the first ten digits are counted from 0 on
from_zero : (n : ℕ) → n < 10 → digit n ≡ 0x30 + n
from_zero zero h = refl
from_zero (suc zero) h = refl
from_zero (suc (suc zero)) h = refl
from_zero (suc (suc (suc zero))) h = refl
from_zero (suc (suc (suc (suc zero)))) h = refl
from_zero (suc (suc (suc (suc (suc zero))))) h = refl
from_zero (suc (suc (suc (suc (suc (suc zero)))))) h = refl
from_zero (suc (suc (suc (suc (suc (suc (suc zero))))))) h = refl
from_zero (suc (suc (suc (suc (suc (suc (suc (suc zero)))))))) h = refl
from_zero (suc (suc (suc (suc (suc (suc (suc (suc (suc zero))))))))) h = refl
from_zero (suc (suc (suc (suc (suc (suc (suc (suc (suc (suc n)))))))))) h = absurd (omega arith)

pub one_counted : (n : ℕ) → n < 10 → decimal n ≡ (0x30 + n) ∷ []
one_counted n h = one_digit n h ∙ ap (λ (x : ℕ). x ∷ []) (from_zero n h)

pub two_counted : (n : ℕ) → 10 ≤ n → n < 100 → decimal n ≡ (0x30 + n / 10) ∷ (0x30 + n % 10) ∷ []
two_counted n p q = more_digits n p ∙ rw (one_digit (n / 10) (omega arith), from_zero (n / 10) (omega arith), from_zero (n % 10) (omega arith))

unfoldable pub ten : ℕ → ℕ
ten zero = 1
ten (suc k) = 10 * ten k

-- the library's digits, from the last on
glyph : (n : ℕ) → n < 10 → digit_glyph false n ≡ digit n
glyph n h = simp (lt-ltb n 10 h) (sym (from_zero n h))

onto : (k n : ℕ) (acc : List ℕ) → n < ten (suc k) → digits_onto (suc k) 10 false n acc ≡ decimal n ++ acc
unfolding ten
onto zero n acc h =
    let z : n / 10 ≡ 0 = omega arith in
    let y : n % 10 ≡ n = omega arith in
    let g = glyph n (omega arith) in
    rw (z, y, g, one_digit n (omega arith))
onto (suc k) n acc h = go (eqb (n / 10) 0) refl (onto k (n / 10) (digit_glyph false (n % 10) ∷ acc) (omega arith))
  where
    go : (b : Bool) → eqb (n / 10) 0 ≡ b → digits_onto (suc k) 10 false (n / 10) (digit_glyph false (n % 10) ∷ acc) ≡ decimal (n / 10) ++ (digit_glyph false (n % 10) ∷ acc)
        → (if b then digit_glyph false (n % 10) ∷ acc else digits_onto (suc k) 10 false (n / 10) (digit_glyph false (n % 10) ∷ acc)) ≡ decimal n ++ acc
    go true e more =
        let z = eqb-true _ _ e in
        let y : n % 10 ≡ n = omega arith in
        rw (y, glyph n (omega arith), one_digit n (omega arith))
    go false e more =
        let z = eqb-false _ _ e in
        more ∙ rw (more_digits n (omega arith), glyph (n % 10) (omega arith), append_assoc)

pub as_library : (n : ℕ) → n < 18446744073709551616 → decimal n ≡ library n
unfolding ten library_digits
as_library n h = sym (onto 63 n [] (omega arith) ∙ append-nil (decimal n))

decimal_length : (k n : ℕ) → n < ten (suc k) → length (decimal n) ≤ suc k
unfolding ten
decimal_length zero n h = let e = one_digit n h in rw e (omega arith)
decimal_length (suc k) n h = go (ltb n 10) refl (decimal_length k (n / 10) (omega arith))
  where
    go : (b : Bool) → ltb n 10 ≡ b → length (decimal (n / 10)) ≤ suc k → length (decimal n) ≤ suc (suc k)
    go true p l = rw (one_digit n (ltb-true n 10 p)) (omega arith)
    go false p l = rw (more_digits n (ltb-false n 10 p), length-append) (omega arith)

pub decimal_fits : (n : ℕ) → n < 18446744073709551616 → length (decimal n) ≤ 20
unfolding ten
decimal_fits n h = decimal_length 19 n (omega arith)

pub decimal_digits : (n : ℕ) → n < 256 → length (decimal n) ≡ (if ltb n 10 then 1 else if ltb n 100 then 2 else 3)
decimal_digits n h = go (ltb n 10) (ltb n 100) refl refl
  where
    two : (m : ℕ) → 10 ≤ m → m < 100 → length (decimal m) ≡ 2
    two m p q = rw (two_counted m p q)

    go : (x y : Bool) → ltb n 10 ≡ x → ltb n 100 ≡ y → length (decimal n) ≡ (if x then 1 else if y then 2 else 3)
    go true y p q = rw (one_digit n (ltb-true n 10 p))
    go false true p q = two n (ltb-false n 10 p) (ltb-true n 100 q)
    go false false p q =
        let l = ltb-false n 100 q in
        rw (more_digits n (omega arith), length-append, two (n / 10) (omega arith) (omega arith))

-- Newlines.

abbrev No : List ℕ → ℕ → Type 0
No l n = (k : ℕ) → k < n → get_or l k 0 ≡ newline → ⊥

line_found : (l : List ℕ) (n : ℕ) → n < length l → get_or l n 0 ≡ newline → No l n → line_length l ≡ n
unfolding line_length
line_found [] n h e no = absurd (omega arith)
line_found (x ∷ l) zero h e no = simp (eq-eqb _ _ e)
line_found (x ∷ l) (suc n) h e no = let r = line_found l n (omega arith) e (λ k i. no (suc k) (omega arith)) in simp (ne_eqb _ _ (no 0 (omega arith))) (omega arith)

line_none : (l : List ℕ) → No l (length l) → line_length l ≡ length l
unfolding line_length
line_none [] no = refl
line_none (x ∷ l) no = let r = line_none l (λ k i. no (suc k) (omega arith)) in simp (ne_eqb _ _ (no 0 (omega arith))) (omega arith)

lent_from : (block : List ℕ) (at : ℕ) → take (length block - at) (drop at block) ≡ drop at block
lent_from block at = let d = length-drop at block in take_all (length block - at) (drop at block) (omega arith)

-- by the library's search in what is lent from a place on
module _ (block : List ℕ) (at : ℕ) (h : at ≤ length block) {r : Option ℕ} (e : IsFirstByte (is_byte newline) (take (length block - at) (drop at block)) r) where
  pub newline_found : {n : ℕ} → r ≡ Some n → at + n ≡ newline_from block at
  newline_found {n} f =
      let (b, p) : IsFirstByte (is_byte newline) (drop at block) (Some n) = rw (lent_from block at, f) at e in
      rw (le-ltb (length block) at h, line_found (drop at block) n b.high (eqb-true _ _ p) (λ k l q. b.before k (omega arith) l (eq-eqb _ _ q)))

  pub newline_none : r ≡ None → length block ≡ newline_from block at
  newline_none f =
      let b : IsFirstByte (is_byte newline) (drop at block) None = rw (lent_from block at, f) at e in
      let d = length-drop at block in
      rw (le-ltb (length block) at h, line_none (drop at block) (λ k l q. b k (omega arith) l (eq-eqb _ _ q))) (omega arith)

line_within : (l : List ℕ) → line_length l ≤ length l
unfolding line_length
line_within [] = omega arith
line_within (x ∷ l) = go (eqb x newline) (line_within l)
  where
    go : (b : Bool) → line_length l ≤ length l → (if b then 0 else suc (line_length l)) ≤ suc (length l)
    go true h = omega arith
    go false h = omega arith

pub newline_within : (block : List ℕ) (at : ℕ) → at ≤ length block → (at ≤ newline_from block at) × (newline_from block at ≤ length block)
newline_within block at h =
    let w = line_within (drop at block) in
    let d = length-drop at block in
    rw (le-ltb (length block) at h) (omega arith, omega arith)

-- What is kept of a block.

take_both : (l : List ℕ) (a b n : ℕ) → n ≡ min a (min b (length l)) → take n l ≡ take a (take b l)
take_both l a b n e = go (ltb b (length l)) (ltb a b) (ltb a (length l)) refl refl refl
  where
    go : (x y z : Bool) → ltb b (length l) ≡ x → ltb a b ≡ y → ltb a (length l) ≡ z → take n l ≡ take a (take b l)
    go true true z p q r =
        let h = ltb-true b (length l) p in
        let k = ltb-true a b q in
        let m : n ≡ a = omega arith in
        rw (m, take-take a b l (omega arith))
    go true false z p q r =
        let h = ltb-true b (length l) p in
        let k = ltb-false a b q in
        let m : n ≡ b = omega arith in
        let t = length-take b l in
        rw (m, take_all a (take b l) (omega arith))
    go false y true p q r =
        let h = ltb-false b (length l) p in
        let k = ltb-true a (length l) r in
        let m : n ≡ a = omega arith in
        rw (m, take_all b l h)
    go false y false p q r =
        let h = ltb-false b (length l) p in
        let k = ltb-false a (length l) r in
        rw (take_all b l h, take_all a l k, take_all n l (omega arith))

pub kept_whole : (d out : List ℕ) (at end most n : ℕ) → out ≡ paste d 0 (drop at d) n → n ≡ min most (min (end - at) (length d - at)) → Keeps (take most (between at end d)) n d out
kept_whole d out at end most n e g =
    let l = length-drop at d in
    let t = take_both (drop at d) most (end - at) n (omega arith) in
    let k : length (take n (drop at d)) ≡ n = length-take-le n (drop at d) (omega arith) in
    let z : 0 + n ≡ n = omega arith in
    rw (← t) (record { count = sym k; leaves = rw (k, e, z) })
