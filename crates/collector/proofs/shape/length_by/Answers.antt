use mathlib.Core.Path.{refl}
use native.Mathlib.Omega.{arith}
use Rattle.collector.proofs.shape.Laws.{low_empty, last_small, last_filled, low_is}
use Rattle.collector.proofs.shape.length_by.Goals as goal

pub returns-then-top-eq0 : goal.returns-then-top-eq0
returns-then-top-eq0 c = low_empty _ _ c.requires c.if-top-eq0.true

pub bounds-marks-last : goal.bounds-marks-last
bounds-marks-last c = omega (arith, last_small _ _ c.requires _ refl c.if-top-eq0.false)

pub overflow_sub-result : goal.overflow_sub-result
overflow_sub-result c = omega (arith, last_filled _ _ c.requires _ refl c.if-top-eq0.false)

pub returns : goal.returns
returns c =
    low_is _ _ c.requires _ refl c.if-top-eq0.false
