-- What a writer answers, and what it leaves in the lent buffer.
use Rattle.std.specs.Prelude.{ℕ, ◌-◌, ◌≡◌, Result, List, [], ◌++◌, length, drop, replicate, if◌then◌else◌}
use Rattle.base.specs.Choice.{◌<?◌}
use Rattle.base.specs.Outcome.{Outcome, accepted, refused, ◌>>=◌}
use Rattle.base.specs.Refusal.{said}
use Rattle.base.specs.declared.refusal.Refusal.{Refusal}

-- what is written of a message: all of it, or 11 where the buffer is shorter; a message that is refused stays so
unfoldable pub written : Outcome (List ℕ) → List ℕ → Outcome (List ℕ)
written message buffer = do
  bytes ← message
  if length buffer <? length bytes then refused 11 [] else accepted bytes

-- "the request is written .. and its length returned"; a refusal stays so
unfoldable pub length_of : Outcome (List ℕ) → Outcome ℕ
length_of message = do
  bytes ← message
  accepted (length bytes)

-- "written to the start of a lent buffer"; "Lent buffers .. keep every byte" on a refusal
unfoldable pub over : List ℕ → Outcome (List ℕ) → List ℕ
over buffer (accepted bytes) = bytes ++ drop (length bytes) buffer
over buffer (refused number carried) = buffer

-- a list in so many places: zeros stand behind it
abbrev pub padded : ℕ → List ℕ → List ℕ
padded width list = list ++ replicate (width - length list) 0

-- The promise of every writer of a message: its answer, and the buffer before and after.
pub record Writes (message : Outcome (List ℕ)) (answer : Result ℕ Refusal) (before after : List ℕ) : Type 0 where
  pub answers : said answer ≡ length_of (written message before)
  pub leaves : after ≡ over before (written message before)
