-- Texts, as the bytes of ASCII.
use Rattle.std.specs.Prelude.{ℕ, ◌/◌, ◌%◌, List, [], ◌∷◌, ◌++◌, get_or, if◌then◌else◌}
use Prim.Native.Char.{code}
use Prim.Native.String.{String, [] as empty, ◌∷◌ as ◌before◌}
use Rattle.base.specs.Choice.{◌<?◌}

-- the codes of a text's characters
abbrev pub ascii : String → List ℕ
ascii empty = []
ascii (◌before◌ character rest) = code character ∷ ascii rest

-- the hexadecimal digit of a number's low four bits
abbrev pub digit : ℕ → ℕ
digit n = get_or (ascii "0123456789ABCDEF") (n % 16) 0

-- a byte as Rust's {:02X} shows it
abbrev pub hex2 : ℕ → List ℕ
hex2 n = digit (n / 16) ∷ digit n ∷ []

-- a byte as Rust's {:01X} shows it
abbrev pub hex1 : ℕ → List ℕ
hex1 n = if n <? 16 then digit n ∷ [] else hex2 n

-- a value that has no name of its own, as Unknown (0x2A)
abbrev pub coded : List ℕ → ℕ → List ℕ
coded name n = name ++ (ascii " (0x" ++ hex2 n ++ ascii ")")
