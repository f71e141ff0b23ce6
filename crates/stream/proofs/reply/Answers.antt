use borrow.Author.Rules.{rules}
use borrow.Author.Tests.{eqb-true, eqb-false}
use mathlib.Core.Path.{sym}
use Prim.Native.Nat.{◌<◌}
use native.Mathlib.Omega.{arith}
use lib.ListN.{length}
use Rattle.std.proofs.lemmas.Result.{err_from_is_err_and}
use Rattle.stream.proofs.Laws.{replied, replied_none, replied_not, replied_within}
use Rattle.stream.proofs.reply.Goals as goal

pub returns-then-is_empty : goal.returns-then-is_empty
returns-then-is_empty c = replied_none c.args.collector.now c.args.line.now c.args.out.now (eqb-true (length c.args.out.now) 0 (sym c.if-is_empty.ensures))

pub returns-in_err-n : goal.returns-in_err-n
returns-in_err-n c =
    let h : 0 < length c.args.out.now = omega (arith, eqb-false (length c.args.out.now) 0 (sym c.if-is_empty.ensures)) in
    let p = err_from_is_err_and c.from_residual.result c.from_residual.ensures.1 in
    rw (p.1, p.2) (replied_not c.args.collector.now c.args.line.now c.args.out.now c.dump-answer.new.out c.dump-answer.new.collector c.dump-answer.result h c.dump-answer.ensures c.in_err-n.was)

pub bounds-out-n : goal.bounds-out-n
bounds-out-n c =
    let h : 0 < length c.args.out.now = omega (arith, eqb-false (length c.args.out.now) 0 (sym c.if-is_empty.ensures)) in
    (replied_within c.args.collector.now c.args.line.now c.args.out.now c.dump-answer.new.out c.dump-answer.new.collector c.dump-answer.result h c.dump-answer.ensures c.in_ok-n.n c.in_ok-n.was).0

pub overflow_add-result : goal.overflow_add-result
overflow_add-result c =
    let h : 0 < length c.args.out.now = omega (arith, eqb-false (length c.args.out.now) 0 (sym c.if-is_empty.ensures)) in
    let w = (replied_within c.args.collector.now c.args.line.now c.args.out.now c.dump-answer.new.out c.dump-answer.new.collector c.dump-answer.result h c.dump-answer.ensures c.in_ok-n.n c.in_ok-n.was).1 in
    search rules

pub returns : goal.returns
returns c =
    let h : 0 < length c.args.out.now = omega (arith, eqb-false (length c.args.out.now) 0 (sym c.if-is_empty.ensures)) in
    replied c.args.collector.now c.args.line.now c.args.out.now c.dump-answer.new.out c.dump-answer.new.collector c.dump-answer.result h c.dump-answer.ensures c.in_ok-n.n c.in_ok-n.was
