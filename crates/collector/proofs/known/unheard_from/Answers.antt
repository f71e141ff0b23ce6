use native.Mathlib.Omega.{arith}
use mathlib.Core.Path.{◌≡◌, sym}
use Rattle.collector.proofs.Complete.{lowest_is}
use Rattle.collector.proofs.known.unheard_from.Goals as goal

pub returns-then-marks-i-eq0 : goal.returns-then-marks-i-eq0
returns-then-marks-i-eq0 c = sym (lowest_is _ 64 c.loop-i.i (omega arith) c.loop-i.invariant (λ q. c.if-marks-i-eq0.true))

pub returns : goal.returns
returns c = let e : c.loop-i.i ≡ 64 = omega arith in sym (lowest_is _ 64 64 (omega arith) (rw (← e) c.loop-i.invariant) (λ q. absurd (omega arith)))
