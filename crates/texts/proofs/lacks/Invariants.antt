use mathlib.Core.Path.{◌≡◌}
use Prim.Native.Nat.{◌≤◌}
use lib.Dec.{ltb}
use lib.ListN.{length, drop}
use Rattle.texts.specs.Texts.{spaced, suites_text}
use Rattle.texts.proofs.lacks.Given as goal

abbrev pub invariant-loop-n : goal.invariant-loop-n
invariant-loop-n l = (l.n-index ≤ length l.numbers) × (ltb l.left (length (spaced (drop l.n-index l.numbers))) ≡ ltb l.room (length (suites_text l.numbers)))
