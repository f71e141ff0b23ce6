use mathlib.Core.Path.{refl}
use borrow.Author.Tests.{tests}
use lib.Dec.{eqb}
use Rattle.std.proofs.Common.{rules}
use Rattle.std.proofs.lemmas.Iterator.{YieldsList-from_slice}
use Rattle.std.proofs.lemmas.Iterator.Search.{position_from_yields_List}
use Rattle.challenge.proofs.get_session_challenge.Laws.{shown_part, shown_end}
use Rattle.challenge.proofs.get_session_challenge.shown.Goals as goal

pub returns : goal.returns
returns c =
    let s = c.args.name.now in
    let found = position_from_yields_List (λ b. eqb b 0) _ _ c.position.result c.position.ensures.ran (YieldsList-from_slice s cc) (λ x b q k. search (rules, tests)) in
    record { lies = refl; shows = rw (c.unwrap_or-end.ensures, shown_end s c.position.result found) (shown_part s) }
