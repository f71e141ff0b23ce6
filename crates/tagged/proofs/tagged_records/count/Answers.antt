use mathlib.Core.Path.{◌≡◌, sym, ap, ◌∙◌}
use Prim.Native.Nat.{◌+◌}
use native.Mathlib.Omega.{arith}
use Rattle.std.proofs.Common.{rules, Err}
use Rattle.base.specs.Refusal.{said}
use Rattle.tagged.proofs.tagged_records.Steps.{counted, counted_bad, counted_end, counted_on, ends, told_bad, told_end}
use Rattle.tagged.proofs.tagged_records.count.Goals as goal

pub loop-at-preserved : goal.loop-at-preserved
loop-at-preserved c =
    let s = c.args.list.now in
    let l = c.loop-at in
    let (r, e, z) = told_end c.end_at.ensures c.in_ok-at.was in
    let h = ends s l.at e in
    (omega arith, l.invariant.1 ∙ counted_on s l.n l.at c.loop-at-test.true e ∙ ap (counted s (l.n + 1)) z)

pub returns-in_err-at : goal.returns-in_err-at
returns-in_err-at c =
    let l = c.loop-at in
    let r = c.in_err-at.field-0.0 in
    let e : c.from_residual.result ≡ Err r = search rules in
    ap said e ∙ sym (l.invariant.1 ∙ counted_bad c.args.list.now l.n l.at r c.loop-at-test.true (told_bad c.end_at.ensures c.in_err-at.was))

pub returns : goal.returns
returns c = let l = c.loop-at in sym (l.invariant.1 ∙ counted_end c.args.list.now l.n l.at c.loop-at-test.false)
