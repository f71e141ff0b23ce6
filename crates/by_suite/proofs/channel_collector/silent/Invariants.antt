use mathlib.Core.Bool.{false}
use mathlib.Core.Path.{◌≡◌}
use lib.Dec.{eqb}
use lib.ListN.{drop}
use Rattle.std.specs.Prelude.{if◌then◌else◌}
use Rattle.suites.specs.GetChannelCipherSuites.{zeros}
use Rattle.by_suite.proofs.channel_collector.silent.Given as goal

abbrev pub invariant-loop-mark : goal.invariant-loop-mark
invariant-loop-mark l = zeros l.marks ≡ (if eqb l.most 0 then zeros (drop l.mark-index l.marks) else false)
