use borrow.Author.Rules.{rules}
use Rattle.base.proofs.little.Laws.{are_bytes}
use Rattle.chandump.proofs.typed.Goals as goal

pub returns : goal.returns
returns c = record { bytes = search rules; marks = search rules; small = are_bytes c.args.bytes (λ k. search rules) }
