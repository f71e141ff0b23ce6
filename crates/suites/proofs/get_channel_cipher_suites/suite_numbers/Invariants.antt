use mathlib.Core.Path.{◌≡◌}
use Prim.Native.Nat.{◌-◌, ◌≤◌}
use lib.ListN.{length}
use lib.Seq.{paste}
use Rattle.suites.specs.GetChannelCipherSuites.{numbers_of}
use Rattle.suites.proofs.get_channel_cipher_suites.suite_numbers.Given as goal

abbrev pub invariant-loop-i : goal.invariant-loop-i
invariant-loop-i l = ((l.i ≤ l.n) × (l.n ≤ length l.initial.out)) × ((length l.out ≡ length l.initial.out) × (l.out ≡ paste l.initial.out 0 (numbers_of l.list) l.i))

abbrev pub decreases-loop-i : goal.decreases-loop-i
decreases-loop-i l = l.n - l.i
