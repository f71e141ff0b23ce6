use mathlib.Core.Path.{sym}
use native.Mathlib.Omega.{arith}
use Rattle.suites.specs.GetChannelCipherSuites.{suites}
use Rattle.suites.proofs.get_channel_cipher_suites.Laws.{row_at, no_row}
use Rattle.suites.proofs.get_channel_cipher_suites.CipherSuite.into_suite.Goals as goal

pub returns-then-number-lt-COUNT : goal.returns-then-number-lt-COUNT
unfolding suites
returns-then-number-lt-COUNT c = sym (row_at c.args.self.0 (omega arith))

pub returns : goal.returns
unfolding suites
returns c = sym (no_row c.args.self.0 (omega arith))
