use borrow.Author.Tests.{eqb-true}
use mathlib.Core.Path.{sym}
use lib.ListN.{length}
use Rattle.stream.proofs.Laws.{finish_none}
use Rattle.stream.proofs.finish.Goals as goal

pub returns-then-is_empty : goal.returns-then-is_empty
returns-then-is_empty c = finish_none c.args.collector.now c.args.rest.now c.args.out.now (eqb-true (length c.args.rest.now) 0 (sym c.if-is_empty.ensures))
