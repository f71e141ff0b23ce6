use Rattle.chandump.specs.Run.{Ready}
use Rattle.chandump.proofs.run.Given as goal

abbrev pub invariant-loop : goal.invariant-loop
invariant-loop l = Ready l.held l.block l.collector
