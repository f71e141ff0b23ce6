-- What stands in a line: hex pairs, numbers; where a line ends. Document 01, "chandump".
use Rattle.std.specs.Prelude.{ℕ, zero, suc, ◌+◌, ◌-◌, ◌*◌, ◌/◌, ◌%◌, List, [], ◌∷◌, ◌++◌, ◌≡◌, length, take, drop, if◌then◌else◌}
use Rattle.base.specs.Choice.{if◌from◌to◌then◌else◌, ◌<?◌, ◌=?◌}
use Rattle.base.specs.Outcome.{Outcome, accepted, refused, ◌>>=◌}
use Rattle.base.specs.Text.{digit}

-- the value of a hexadecimal digit "of either case": 0 to 9, A to F, a to f; 14 BadLine
abbrev pub digit_of : ℕ → Outcome ℕ
digit_of byte =
    if byte from 0x30 to 0x39 then accepted (byte - 0x30) else
    if byte from 0x41 to 0x46 then accepted (byte - 0x37) else
    if byte from 0x61 to 0x66 then accepted (byte - 0x57) else refused 14 []

-- "one space before each"
abbrev pub space : ℕ
space = 0x20

-- what ends a line
abbrev pub newline : ℕ
newline = 0x0A

-- a hex pair with the space before it
abbrev pub pair_of : ℕ → ℕ → ℕ → Outcome ℕ
pair_of before high low =
    if before =? space then (do
      h ← digit_of high
      l ← digit_of low
      accepted (16 * h + l))
    else refused 14 []

-- "hex pairs of either case, one space before each"
unfoldable pub pairs_of : List ℕ → Outcome (List ℕ)
pairs_of [] = accepted []
pairs_of (before ∷ []) = refused 14 []
pairs_of (before ∷ high ∷ []) = refused 14 []
pairs_of (before ∷ high ∷ low ∷ rest) = do
  byte ← pair_of before high low
  bytes ← pairs_of rest
  accepted (byte ∷ bytes)

-- the decimal digits of a number that has at most one more than `more`
unfoldable pub digits : ℕ → ℕ → List ℕ
digits zero n = digit n ∷ []
digits (suc more) n = if n <? 10 then digit n ∷ [] else digits more (n / 10) ++ (digit (n % 10) ∷ [])

-- "Counts and numbers are decimal"
abbrev pub decimal : ℕ → List ℕ
decimal n = digits n n

-- how many bytes stand before the first newline
unfoldable pub line_length : List ℕ → ℕ
line_length [] = 0
line_length (byte ∷ rest) = if byte =? newline then 0 else suc (line_length rest)

-- where the next newline stands from a place on, or the end
abbrev pub newline_from : List ℕ → ℕ → ℕ
newline_from block at = if length block <? at then length block else at + line_length (drop at block)

-- what a block has from a place up to another
abbrev pub between : ℕ → ℕ → List ℕ → List ℕ
between at end block = take (end - at) (drop at block)

-- The promise of what moves bytes of a block to its start: how many they are, and the block behind it.
pub record Keeps (bytes : List ℕ) (n : ℕ) (before after : List ℕ) : Type 0 where
  pub count : n ≡ length bytes
  pub leaves : after ≡ bytes ++ drop (length bytes) before
