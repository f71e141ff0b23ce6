use Rattle.std.proofs.Common.{length, ◌≡◌}
use lib.Seq.{paste}
use Rattle.base.proofs.written.place.Given as goal

abbrev pub invariant-loop-i : goal.invariant-loop-i
invariant-loop-i l = (length l.out ≡ length l.initial.out) × (l.out ≡ paste l.initial.out 0 l.message l.i)
