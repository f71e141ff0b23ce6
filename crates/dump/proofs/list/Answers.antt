use mathlib.Core.Path.{sym}
use Rattle.collector.proofs.Stored.{told_within}
use Rattle.dump.proofs.list.Goals as goal

pub shared_ref_as_front-suites : goal.shared_ref_as_front-suites
shared_ref_as_front-suites c = told_within c.args.collector.now c.in-Ok-Complete.length (sym (rw c.in-Ok-Complete.field-0-is at c.in-Ok-Complete.ensures))
