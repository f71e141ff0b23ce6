-- Document 01: "a returned part of the lent bytes".
use Rattle.std.specs.Prelude.{◌≡◌, List, ℕ}
use Rattle.std.specs.Borrow.{Bor}

-- The promise of a function that returns such a part: it lies where the lent bytes begin, and which bytes it is.
pub record Part (lent part : Bor (List ℕ)) (bytes : List ℕ) : Type 0 where
  pub lies : part.ref_ptr ≡ lent.ref_ptr
  pub shows : part.now ≡ bytes
