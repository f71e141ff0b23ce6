-- What the private code does: a text is built a piece at a time.
use Rattle.std.specs.Prelude.{ℕ, ◌+◌, ◌≤◌, Result, List, ◌++◌, ◌≡◌, length, take, drop}
use Rattle.std.specs.Result.{result_unwrap_or}
use Rattle.base.specs.declared.refusal.Refusal.{Refusal}

-- how much was written
abbrev pub wrote : Result ℕ Refusal → ℕ
wrote written = result_unwrap_or written 0

-- the piece stands from place `at` on and ends at `end`; all else is as it was
pub record Appends (piece before : List ℕ) (at : ℕ) (after : List ℕ) (end : ℕ) : Type 0 where
  pub moves : end ≡ at + length piece
  pub fits : end ≤ length before
  pub keeps : length after ≡ length before
  pub holds : take end after ≡ take at before ++ piece
  pub rest : drop end after ≡ drop end before
