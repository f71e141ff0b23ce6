use mathlib.Core.Path.{sym, ◌∙◌}
use Rattle.dump.proofs.Laws.{end_unwritten, end_written}
use Rattle.dump.proofs.end.Goals as goal

pub returns-then-is_ok : goal.returns-then-is_ok
returns-then-is_ok c = rw c.fresh.ensures (end_written c.args.collector.now (sym c.is_ok.ensures.value ∙ c.if-is_ok.true) c.list-answered.ensures)

pub returns-else-is_ok : goal.returns-else-is_ok
returns-else-is_ok c = end_unwritten c.args.collector.now (sym c.is_ok.ensures.value ∙ c.if-is_ok.false) c.list-answered.ensures
