use mathlib.Core.Path.{sym, ◌∙◌}
use Rattle.collector.proofs.Entries.{free_within}
use Rattle.collector.proofs.Stored.{not_low, by_complete}
use Rattle.collector.proofs.shape.well_stored.Goals as goal

pub lowest_by-requires : goal.lowest_by-requires
lowest_by-requires c = free_within c.args.bytes.now c.args.marks.now c.args.shape c.requires

pub returns-then-known-lowest_by : goal.returns-then-known-lowest_by
returns-then-known-lowest_by c =
    let a = c.args in
    sym (not_low a.bytes.now a.marks.now a.shape c.requires (sym c.well_formed-2.ensures ∙ c.if-not-well_formed.false) a.known.now c.lowest_by.result c.lowest_by.ensures c.if-known-lowest_by.true)

pub returns : goal.returns
returns c =
    let a = c.args in
    by_complete a.bytes.now a.marks.now a.shape c.requires (sym c.well_formed-2.ensures ∙ c.if-not-well_formed.false) a.known.now c.lowest_by.result c.lowest_by.ensures c.if-known-lowest_by.false c.complete.result c.complete.ensures
