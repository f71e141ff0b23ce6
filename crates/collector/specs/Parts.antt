-- What a collector heard. Document 01: "It holds up to 64 parts with their lengths".
use Rattle.std.specs.Prelude.{ℕ, List}

-- the bytes, and a mark for each part
pub record Parts : Type 0 where
  pub bytes : List ℕ
  pub marks : List ℕ
