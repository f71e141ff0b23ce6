use Rattle.std.proofs.Common.{rules, tests}
use Rattle.std.proofs.lemmas.Iterator.{YieldsList-from_slice}
use Rattle.std.proofs.lemmas.Iterator.Search.{position_from_yields_List}
use Rattle.base.proofs.little.Laws.{are_bytes}
use Rattle.tagged.proofs.tagged_records.Steps.{Other, lent_from, reach_found, reach_past}
use Rattle.tagged.proofs.tagged_records.reach.Goals as goal

pub returns-in-Some : goal.returns-in-Some
returns-in-Some c =
    let a = c.args in
    let e = position_from_yields_List (Other a.tag) _ _ c.position.result c.position.ensures.ran (YieldsList-from_slice (lent_from a.at a.list.now) c.iter.ensures.rest) (λ x b q k. search (rules, tests)) in
    reach_found a.tag a.list.now a.at (are_bytes a.list.now c.type_inv.list) c.requires e c.in-Some.is

pub returns-in-None : goal.returns-in-None
returns-in-None c =
    let a = c.args in
    let e = position_from_yields_List (Other a.tag) _ _ c.position.result c.position.ensures.ran (YieldsList-from_slice (lent_from a.at a.list.now) c.iter.ensures.rest) (λ x b q k. search (rules, tests)) in
    (reach_past a.tag a.list.now a.at (are_bytes a.list.now c.type_inv.list) c.requires e c.in-None.is, search rules)
