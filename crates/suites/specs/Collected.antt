-- The suites of a collected list. Document 01: "asked for bytes or suites (a number byte each): 9, then 13, then 11".
use Rattle.std.specs.Prelude.{ℕ, List}
use Rattle.base.specs.Outcome.{Outcome, accepted, ◌>>=◌}
use Rattle.collector.specs.Stored.{list_stored}
use Rattle.collector.specs.declared.Collector.{Collector}
use Rattle.suites.specs.GetChannelCipherSuites.{numbers_of}

-- the suites of the list that it holds, "a number byte each"
abbrev pub suites_of : Collector → Outcome (List ℕ)
suites_of c = do
  list ← list_stored c
  accepted (numbers_of list)
