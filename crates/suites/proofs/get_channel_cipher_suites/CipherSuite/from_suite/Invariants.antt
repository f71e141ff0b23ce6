use mathlib.Core.Path.{◌≡◌}
use lib.ListN.{drop}
use Rattle.suites.specs.GetChannelCipherSuites.{find, suites}
use Rattle.suites.proofs.get_channel_cipher_suites.CipherSuite.from_suite.Given as goal

abbrev pub invariant-loop-i : goal.invariant-loop-i
invariant-loop-i l = find suites 0 l.suite ≡ find (drop l.i suites) l.i l.suite
