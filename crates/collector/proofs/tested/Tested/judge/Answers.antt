use mathlib.Core.Path.{refl, sym, ap, ◌∙◌}
use native.Mathlib.Omega.{arith}
use Prim.Native.Nat.{◌+◌}
use lib.ListN.{length}
use Rattle.std.specs.Prelude.{Ok, Err}
use Rattle.base.specs.declared.refusal.Refusal.TheVariants.{BadIndex, TooMuchData, Disagrees}
use Rattle.collector.specs.Shape.{fits}
use Rattle.collector.specs.Stored.{collector_of}
use Rattle.collector.specs.declared.tested.Judgement.TheVariants.{Store, Keep}
use Rattle.collector.proofs.Entries.{stands_by, says_7, says_2, says_store, says_clash, says_other, says_keep, says_differs}
use Rattle.collector.proofs.Stored.{parts_formed, judged}
use Rattle.collector.proofs.tested.Tested.judge.Goals as goal

pub returns-then-index-gt-LAST_INDEX : goal.returns-then-index-gt-LAST_INDEX
returns-then-index-gt-LAST_INDEX c =
    let t = c.args.self in
    let k = collector_of t.bytes.now t.marks.now t.known.now in
    judged k c.args.index c.args.response.now t.passes t.sized.2 (Err BadIndex)
    (says_7 t.bytes.now t.marks.now t.shape t.shaped (parts_formed k t.passes) c.args.index c.args.response.now (omega arith))

pub returns-then-response-gt-PART : goal.returns-then-response-gt-PART
returns-then-response-gt-PART c =
    let t = c.args.self in
    let k = collector_of t.bytes.now t.marks.now t.known.now in
    judged k c.args.index c.args.response.now t.passes t.sized.2 (Err TooMuchData)
    (says_2 t.bytes.now t.marks.now t.shape t.shaped (parts_formed k t.passes) c.args.index c.args.response.now (omega arith) (omega arith))

pub returns-then-marks_fit : goal.returns-then-marks_fit
returns-then-marks_fit c =
    let t = c.args.self in
    let k = collector_of t.bytes.now t.marks.now t.known.now in
    judged k c.args.index c.args.response.now t.passes t.sized.2 (Ok Store)
    (says_store t.bytes.now t.marks.now t.shape t.shaped (parts_formed k t.passes) c.args.index c.args.response.now c.if-index-gt-LAST_INDEX.false c.if-response-gt-PART.false _ (length c.args.response.now + 1) refl refl c.if-heard-eq0.true t.sized.0 t.sized.1
    (ap fits (sym c.shape_with.ensures) ∙ sym c.marks_fit.ensures ∙ c.if-marks_fit.true))

pub returns-then-heard-eq0 : goal.returns-then-heard-eq0
returns-then-heard-eq0 c =
    let t = c.args.self in
    let k = collector_of t.bytes.now t.marks.now t.known.now in
    judged k c.args.index c.args.response.now t.passes t.sized.2 (Err Disagrees)
    (says_clash t.bytes.now t.marks.now t.shape t.shaped (parts_formed k t.passes) c.args.index c.args.response.now c.if-index-gt-LAST_INDEX.false c.if-response-gt-PART.false _ (length c.args.response.now + 1) refl refl c.if-heard-eq0.true t.sized.0 t.sized.1
    (ap fits (sym c.shape_with.ensures) ∙ sym c.marks_fit.ensures ∙ c.if-marks_fit.false))

pub returns-then-heard-mark : goal.returns-then-heard-mark
returns-then-heard-mark c =
    let t = c.args.self in
    let k = collector_of t.bytes.now t.marks.now t.known.now in
    judged k c.args.index c.args.response.now t.passes t.sized.2 (Err Disagrees)
    (says_other t.bytes.now t.marks.now t.shape t.shaped (parts_formed k t.passes) c.args.index c.args.response.now c.if-index-gt-LAST_INDEX.false c.if-response-gt-PART.false _ (length c.args.response.now + 1) refl refl c.if-heard-eq0.false c.if-heard-mark.true)

pub returns-then-eq : goal.returns-then-eq
returns-then-eq c =
    let t = c.args.self in
    let k = collector_of t.bytes.now t.marks.now t.known.now in
    judged k c.args.index c.args.response.now t.passes t.sized.2 (Ok Keep)
    (says_keep t.bytes.now t.marks.now t.shape t.shaped (parts_formed k t.passes) c.args.index c.args.response.now c.if-index-gt-LAST_INDEX.false c.if-response-gt-PART.false _ (length c.args.response.now + 1) refl refl c.if-heard-eq0.false c.if-heard-mark.false
    c.start-at.result c.start-at.ensures (sym (c.eq.ensures ∙ stands_by t.bytes.now c.args.response.now c.start-at.result (omega (arith, t.sized.0))) ∙ c.if-eq.true))

pub returns : goal.returns
returns c =
    let t = c.args.self in
    let k = collector_of t.bytes.now t.marks.now t.known.now in
    judged k c.args.index c.args.response.now t.passes t.sized.2 (Err Disagrees)
    (says_differs t.bytes.now t.marks.now t.shape t.shaped (parts_formed k t.passes) c.args.index c.args.response.now c.if-index-gt-LAST_INDEX.false c.if-response-gt-PART.false _ (length c.args.response.now + 1) refl refl c.if-heard-eq0.false c.if-heard-mark.false
    c.start-at.result c.start-at.ensures (sym (c.eq.ensures ∙ stands_by t.bytes.now c.args.response.now c.start-at.result (omega (arith, t.sized.0))) ∙ c.if-eq.false))
