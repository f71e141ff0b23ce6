use borrow.Author.Tests.{lt-ltb, le-ltb}
use native.Mathlib.Omega.{arith}
use Rattle.lines.proofs.Laws.{decimal_digits}
use Rattle.texts.proofs.width.Goals as goal

pub returns-then-n-lt10 : goal.returns-then-n-lt10
returns-then-n-lt10 c =
    let e = simp (lt-ltb c.args.n 10 (omega arith)) at (decimal_digits c.args.n (omega arith)) in
    omega arith

pub returns-then-n-lt100 : goal.returns-then-n-lt100
returns-then-n-lt100 c =
    let e = simp (le-ltb c.args.n 10 (omega arith), lt-ltb c.args.n 100 (omega arith)) at (decimal_digits c.args.n (omega arith)) in
    omega arith

pub returns : goal.returns
returns c =
    let e = simp (le-ltb c.args.n 10 (omega arith), le-ltb c.args.n 100 (omega arith)) at (decimal_digits c.args.n (omega arith)) in
    omega arith
