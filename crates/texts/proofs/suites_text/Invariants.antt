use Prim.Native.Nat.{◌+◌, ◌≤◌}
use lib.ListN.{length, drop, take}
use Rattle.texts.specs.Appends.{Appends}
use Rattle.texts.specs.Texts.{spaced}
use Rattle.texts.proofs.suites_text.Given as goal

abbrev pub invariant-loop-n : goal.invariant-loop-n
invariant-loop-n l = ((l.n-index ≤ length l.numbers) × (l.at + length (spaced (drop l.n-index l.numbers)) ≤ length l.initial.out)) × Appends (spaced (take l.n-index l.numbers)) l.initial.out l.initial.at l.out l.at
