use mathlib.Core.Path.{◌≡◌}
use Prim.Native.Nat.{◌-◌, ◌%◌, ◌≤◌}
use lib.ListN.{length}
use Rattle.lines.proofs.Laws.{Held}
use Rattle.lines.proofs.are_pairs.Given as goal

abbrev pub invariant-loop-i : goal.invariant-loop-i
invariant-loop-i l = ((l.n ≡ length l.text) × (l.n % 3 ≡ 0) × (3 ≤ l.i) × (l.i ≤ l.n)) × Held l.text l.i l.worst

abbrev pub decreases-loop-i : goal.decreases-loop-i
decreases-loop-i l = l.n - l.i
