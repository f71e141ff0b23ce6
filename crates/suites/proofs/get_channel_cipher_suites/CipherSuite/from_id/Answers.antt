use borrow.Author.Tests.{lt-ltb, le-ltb}
use native.Mathlib.Omega.{arith}
use Rattle.suites.specs.GetChannelCipherSuites.{suites}
use Rattle.suites.proofs.get_channel_cipher_suites.CipherSuite.from_id.Goals as goal

pub returns-then-value-lt-COUNT : goal.returns-then-value-lt-COUNT
unfolding suites
returns-then-value-lt-COUNT c = simp (lt-ltb c.args.value 20 (omega arith))

pub returns : goal.returns
unfolding suites
returns c = simp (le-ltb c.args.value 20 (omega arith))
