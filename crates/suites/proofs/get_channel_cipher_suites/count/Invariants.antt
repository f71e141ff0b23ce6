use mathlib.Core.Path.{◌≡◌}
use Prim.Native.Nat.{◌+◌, ◌-◌, ◌*◌, ◌≤◌}
use lib.ListN.{length}
use Rattle.suites.specs.GetChannelCipherSuites.{numbers_of}
use Rattle.suites.proofs.get_channel_cipher_suites.Records.{rest}
use Rattle.suites.proofs.get_channel_cipher_suites.count.Given as goal

abbrev pub invariant-loop-n : goal.invariant-loop-n
invariant-loop-n l = (l.at ≡ 5 * l.n) × (l.at ≤ length l.list) × (length (numbers_of l.list) ≡ l.n + length (rest l.list l.at))

abbrev pub decreases-loop-n : goal.decreases-loop-n
decreases-loop-n l = length l.list - l.at
