-- A law that the session's messages share: a session's number.
use Rattle.std.specs.Prelude.{ℕ, eqb, List}
use mathlib.Core.Path.{refl}
use Rattle.base.specs.Outcome.{accepted, ◌>>=◌}
use Rattle.base.proofs.Outcome.{Only, only_else, only_steps}
use Rattle.auth.specs.Session.{non_zero}

-- a message with a session's number is refused by 9 alone
pub non_zero_only : (n : ℕ) (message : ℕ → List ℕ) → Only 9 (non_zero 9 n >>= λ id. accepted (message id))
non_zero_only n message = only_steps 9 (non_zero 9 n) _ (only_else 9 (eqb n 0) (accepted n) refl) λ id. refl
