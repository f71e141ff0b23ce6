use mathlib.Core.Path.{◌≡◌}
use Prim.Native.Nat.{◌-◌, ◌*◌, ◌≤◌}
use lib.ListN.{length}
use lib.Seq.{paste}
use Rattle.lines.proofs.Laws.{bytes_of}
use Rattle.lines.proofs.read_pairs.Given as goal

abbrev pub invariant-loop-i : goal.invariant-loop-i
invariant-loop-i l = (((l.i ≤ l.n) × (l.n ≤ length l.initial.out)) × ((length l.text ≡ 3 * l.n) × (l.n ≡ length (bytes_of l.text)))) × ((length l.out ≡ length l.initial.out) × (l.out ≡ paste l.initial.out 0 (bytes_of l.text) l.i))

abbrev pub decreases-loop-i : goal.decreases-loop-i
decreases-loop-i l = l.n - l.i
