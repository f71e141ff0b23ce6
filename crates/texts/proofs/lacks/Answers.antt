use borrow.Author.Tests.{lt-ltb, le-ltb}
use mathlib.Core.Path.{sym, ap, ◌∙◌}
use Prim.Native.Nat.{◌+◌}
use native.Mathlib.Omega.{arith}
use lib.Dec.{ltb}
use lib.ListN.{length, drop}
use Rattle.texts.specs.Texts.{spaced, suites_text}
use Rattle.texts.proofs.Laws.{room_left, spaced_none, spaced_rest, suites_length}
use Rattle.texts.proofs.lacks.Goals as goal

pub returns-then-room-lt6 : goal.returns-then-room-lt6
returns-then-room-lt6 c =
    let e = suites_length c.args.numbers.now in
    sym (lt-ltb c.args.room (length (suites_text c.args.numbers.now)) (omega arith))

pub loop-n-init : goal.loop-n-init
loop-n-init c = (omega arith, sym (ap (ltb c.args.room) (suites_length c.args.numbers.now) ∙ room_left c.args.room 6 (length (spaced c.args.numbers.now)) (omega arith)))

pub returns-then-left-wide : goal.returns-then-left-wide
returns-then-left-wide c =
    let e = spaced_rest c.args.numbers.now c.loop-n.n-index (omega arith) in
    sym (lt-ltb c.loop-n.left (length (spaced (drop c.loop-n.n-index c.args.numbers.now))) (omega arith)) ∙ c.loop-n.invariant.1

pub loop-n-preserved : goal.loop-n-preserved
loop-n-preserved c =
    let e = spaced_rest c.args.numbers.now c.loop-n.n-index (omega arith) in
    let r = room_left c.loop-n.left c.width-wide.result (length (spaced (drop (c.loop-n.n-index + 1) c.args.numbers.now))) (omega arith) in
    (omega arith, sym (ap (ltb c.loop-n.left) (omega arith) ∙ r) ∙ c.loop-n.invariant.1)

pub returns : goal.returns
returns c =
    let e = ap length (spaced_none c.args.numbers.now c.loop-n.n-index (omega arith)) in
    sym (le-ltb c.loop-n.left (length (spaced (drop c.loop-n.n-index c.args.numbers.now))) (omega arith)) ∙ c.loop-n.invariant.1
