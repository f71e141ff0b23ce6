use mathlib.Core.Path.{refl}
use native.Mathlib.Omega.{arith}
use Rattle.collector.proofs.Stored.{heard_still, stored_as}
use Rattle.collector.proofs.Complete.{lowest_le}
use Rattle.collector.proofs.store.Goals as goal

pub unheard_from-low-requires : goal.unheard_from-low-requires
unheard_from-low-requires c =
    let a = c.args in
    (omega (arith, c.requires.0, lowest_le a.marks.now 64), heard_still a.bytes.now a.marks.now a.known.now a.index a.response.now c.told-marks c.requires.1.0 c.requires.0)

pub returns : goal.returns
returns c =
    let a = c.args in
    stored_as a.bytes.now a.marks.now a.known.now a.index a.response.now c.told-known c.start.result c.start.ensures _ _ _ c.put.ensures refl c.unheard_from-low.result c.unheard_from-low.ensures c.ended.result c.ended.ensures refl
