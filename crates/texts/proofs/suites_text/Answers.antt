use borrow.Author.Tests.{ltb-true, ltb-false}
use mathlib.Core.Path.{◌≡◌, sym, ap, ◌∙◌}
use native.Mathlib.Omega.{arith}
use lib.ListN.{length, take}
use lib.Seq.{take_all}
use Rattle.base.proofs.written.Laws.{lacking}
use Rattle.texts.specs.Texts.{spaced, suites_text}
use Rattle.texts.proofs.Laws.{◌then◌, spaced_next, spaced_rest, still, suites_length, written_whole}
use Rattle.texts.proofs.suites_text.Goals as goal

pub returns-then-lacks : goal.returns-then-lacks
returns-then-lacks c = lacking (suites_text c.args.numbers.now) c.args.out.now (ltb-true _ _ (sym c.lacks.ensures ∙ c.if-lacks.true))

pub put-at-requires : goal.put-at-requires
put-at-requires c =
    let h = ltb-false (length c.args.out.now) (length (suites_text c.args.numbers.now)) (sym c.lacks.ensures ∙ c.if-lacks.false) in
    let l = suites_length c.args.numbers.now in
    omega arith

pub loop-n-init : goal.loop-n-init
unfolding spaced
loop-n-init c =
    let h = ltb-false (length c.args.out.now) (length (suites_text c.args.numbers.now)) (sym c.lacks.ensures ∙ c.if-lacks.false) in
    let l = suites_length c.args.numbers.now in
    ((omega arith, omega arith), still c.put-at.new.into c.put-at.result (omega arith))

pub put_spaced-at-requires : goal.put_spaced-at-requires
put_spaced-at-requires c =
    let e = spaced_rest c.args.numbers.now c.loop-n.n-index (omega arith) in
    omega arith

pub loop-n-preserved : goal.loop-n-preserved
loop-n-preserved c =
    let e = spaced_rest c.args.numbers.now c.loop-n.n-index (omega arith) in
    ((omega arith, omega arith), rw (spaced_next c.args.numbers.now c.loop-n.n-index (omega arith)) (c.loop-n.invariant.1 then c.put_spaced-at.ensures))

pub returns : goal.returns
unfolding suites_text
returns c =
    let e : spaced (take c.loop-n.n-index c.args.numbers.now) ≡ spaced c.args.numbers.now = ap spaced (take_all c.loop-n.n-index c.args.numbers.now (omega arith)) in
    written_whole (c.put-at.ensures then (rw e at c.loop-n.invariant.1))
