-- Laws of numbers of several bytes, at any width.
use mathlib.Core.Path.{◌≡◌, refl, ◌∙◌}
use mathlib.Core.List.{List, [], ◌∷◌, ◌++◌, append_assoc}
use Prim.Native.Nat.{ℕ, zero, suc, ◌+◌, ◌-◌, ◌*◌, ◌/◌, ◌%◌, ◌^◌, ◌<◌}
use native.Mathlib.Nat.{pow-suc, div-lt_iff_lt-mul}
use native.Mathlib.Omega.{arith}
use lib.Dec.{lit<}
use lib.ListN.{length, get_or, take, drop, set, replicate}
use Rattle.std.proofs.lemmas.List.{take_more_set}
use mir.Syntax.{w8}
use mir.Val.{Fits}
use lib.Seq.{paste}
use Rattle.base.specs.Field.{Bytes}
use Rattle.base.specs.Little.{little, little_bytes}

-- a number that fits comes back from its bytes
pub number_back : (width n : ℕ) → n < 256 ^ width → little (little_bytes width n) ≡ n
number_back zero n h = let z : n < 1 = h in omega arith
number_back (suc width) n h = rw (number_back width (n / 256) ((div-lt_iff_lt-mul (lit< tt)).1 (rw pow-suc at h))) (omega arith)

-- bytes come back from their number
pub bytes_back : (bytes : List ℕ) → Bytes bytes → little_bytes (length bytes) (little bytes) ≡ bytes
bytes_back [] h = refl
bytes_back (byte ∷ bytes) h =
    let low : (byte + 256 * little bytes) % 256 ≡ byte = omega arith in
    let rest : (byte + 256 * little bytes) / 256 ≡ little bytes = omega arith in
    rw (low, rest, bytes_back bytes h.1)

-- and their number fits
pub number_fits : (bytes : List ℕ) → Bytes bytes → little bytes < 256 ^ length bytes
number_fits [] h = lit< tt
number_fits (byte ∷ bytes) h = let l = number_fits bytes h.1 in rw pow-suc (omega arith)

-- a byte at any place; past the end it is 0
pub a_byte : (bytes : List ℕ) → Bytes bytes → (k : ℕ) → get_or bytes k 0 < 256
a_byte [] h k = lit< tt
a_byte (byte ∷ bytes) h zero = h.0
a_byte (byte ∷ bytes) h (suc k) = a_byte bytes h.1 k

-- and bytes at every place are all
pub all_bytes : (bytes : List ℕ) → ((k : ℕ) → get_or bytes k 0 < 256) → Bytes bytes
all_bytes [] h = tt
all_bytes (byte ∷ bytes) h = (h 0, all_bytes bytes (λ k. h (suc k)))

-- so are the machine's elements of eight bits
pub are_bytes : (bytes : List ℕ) → ((k : ℕ) → Fits w8 (get_or bytes k 0)) → Bytes bytes
are_bytes bytes h = all_bytes bytes (λ k. (h k).fits)

-- a part of bytes is bytes
pub bytes_take : (n : ℕ) (bytes : List ℕ) → Bytes bytes → Bytes (take n bytes)
bytes_take zero bytes h = tt
bytes_take (suc n) [] h = h
bytes_take (suc n) (byte ∷ bytes) h = (h.0, bytes_take n bytes h.1)

pub bytes_drop : (n : ℕ) (bytes : List ℕ) → Bytes bytes → Bytes (drop n bytes)
bytes_drop zero bytes h = h
bytes_drop (suc n) [] h = h
bytes_drop (suc n) (byte ∷ bytes) h = bytes_drop n bytes h.1

-- bytes put together, zeros among them, are bytes
pub bytes_both : (s t : List ℕ) → Bytes s → Bytes t → Bytes (s ++ t)
bytes_both [] t h k = k
bytes_both (byte ∷ s) t h k = (h.0, bytes_both s t h.1 k)

pub bytes_zeros : (n : ℕ) → Bytes (replicate n 0)
bytes_zeros zero = tt
bytes_zeros (suc n) = (lit< tt, bytes_zeros n)

pub zero_at : (n k : ℕ) → ◌≡◌ {A = ℕ} (get_or (replicate n 0) k 0) 0
zero_at zero k = refl
zero_at (suc n) zero = refl
zero_at (suc n) (suc k) = zero_at n k

pub bytes_paste : (d : List ℕ) (at : ℕ) (s : List ℕ) (n : ℕ) → Bytes d → Bytes s → Bytes (paste d at s n)
bytes_paste d at s n h k = bytes_both (take at d ++ take n s) (drop (at + n) d) (bytes_both (take at d) (take n s) (bytes_take at d h) (bytes_take n s k)) (bytes_drop (at + n) d h)

pub bytes_are : (width n : ℕ) (rest : List ℕ) → Bytes rest → Bytes (little_bytes width n ++ rest)
bytes_are zero n rest h = h
bytes_are (suc width) n rest h = (omega arith, bytes_are width (n / 256) rest h)

-- a turn of the writing: the low byte of the rest behind those that stand
pub written_byte : (width i rest : ℕ) (items all : List ℕ) → length items ≡ width → i < width → all ≡ take i items ++ little_bytes (width - i) rest
    → all ≡ take (i + 1) (set items i (rest % 256)) ++ little_bytes (width - (i + 1)) (rest / 256)
written_byte width i rest items all l h e =
    let z : width - i ≡ suc (width - (i + 1)) = omega arith in
    rw (take_more_set items i (rest % 256) (omega arith)) (e ∙ rw z (simp append_assoc))
