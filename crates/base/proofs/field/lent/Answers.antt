use Rattle.std.proofs.Common.{rules}
use Rattle.base.proofs.little.Laws.{are_bytes}
use Rattle.base.proofs.field.lent.Goals as goal

pub returns : goal.returns
returns c = search (rules, are_bytes)
