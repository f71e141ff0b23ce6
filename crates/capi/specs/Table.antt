-- The suite table and a step of the reading of a list, from C.
use Rattle.std.specs.Prelude.{ℕ, List, [], ◌∷◌, ◌≡◌, Option, Some, None}
use mir.Val.{bool_byte}
use Rattle.base.specs.Outcome.{accepted}
use Rattle.capi.specs.Number.{code, or_none}
use Rattle.suites.specs.GetChannelCipherSuites.{row_of}
use Rattle.suites.specs.declared.get_channel_cipher_suites.CipherSuite.{CipherSuite}
use Rattle.suites.specs.declared.get_channel_cipher_suites.Row.{Row}
use Rattle.suites.specs.declared.get_channel_cipher_suites.Step.{Step}

-- a suite is its number
abbrev pub suite_number : CipherSuite → ℕ
suite_number suite = suite.0

-- a row as bytes: authentication, integrity, confidentiality
abbrev pub row_bytes : Option Row → Option (List ℕ)
row_bytes (Some row) = Some (row.authentication ∷ row.integrity ∷ row.confidentiality ∷ [])
row_bytes None = None

-- the three algorithms of a suite: its row of the table
abbrev pub algorithms_of : ℕ → Option (List ℕ)
algorithms_of n = row_bytes (row_of n)

-- The promise of a step: the suite's number, and the position and the flag that the next one goes on from.
pub record Steps (step : Step) (number position failed : ℕ) : Type 0 where
  pub answers : number ≡ code (or_none suite_number (accepted step.answer))
  pub moves : position ≡ step.position
  pub marks : failed ≡ bool_byte step.failed
