use mathlib.Core.Path.{refl}
use native.Mathlib.Omega.{arith}
use Rattle.lines.proofs.Laws.{held_end, held_first, held_next, none, uneven}
use Rattle.lines.proofs.are_pairs.Goals as goal

pub returns-then-n-ne0 : goal.returns-then-n-ne0
returns-then-n-ne0 c = uneven c.args.text.now c.if-n-ne0.true

pub returns-then-n-eq0 : goal.returns-then-n-eq0
returns-then-n-eq0 c = none c.args.text.now c.if-n-eq0.true

pub loop-i-init : goal.loop-i-init
loop-i-init c = ((refl, omega arith, omega arith, omega arith), rw (c.max-worst.ensures, c.max.ensures, c.no_digit-2.ensures, c.no_digit.ensures, c.no_space.ensures) (held_first c.args.text.now (omega arith)))

pub loop-i-preserved : goal.loop-i-preserved
loop-i-preserved c = ((refl, omega arith, omega arith, omega arith), rw (c.max-worst-in-loop-i.ensures, c.strays.ensures) (held_next c.args.text.now c.loop-i.i c.loop-i.worst (omega arith) (omega arith) c.loop-i.invariant.1))

pub returns : goal.returns
returns c = held_end c.args.text.now c.loop-i.i c.loop-i.worst (omega arith) (omega arith) c.loop-i.invariant.1
