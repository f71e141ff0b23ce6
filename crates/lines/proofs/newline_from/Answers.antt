use Rattle.lines.proofs.Laws.{newline_found, newline_none}
use Rattle.lines.proofs.newline_from.Goals as goal

pub returns-in-Some : goal.returns-in-Some
returns-in-Some c = newline_found c.args.block.now c.args.at c.if-block-at.false c.memchr.ensures c.in-Some.is

pub returns-in-None : goal.returns-in-None
returns-in-None c = newline_none c.args.block.now c.args.at c.if-block-at.false c.memchr.ensures c.in-None.is
