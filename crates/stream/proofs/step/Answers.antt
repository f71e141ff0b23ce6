use borrow.Author.Rules.{rules}
use mathlib.Core.Path.{sym, ◌∙◌}
use Rattle.stream.proofs.Laws.{first_within, step_full, step_none, step_some}
use Rattle.stream.proofs.step.Goals as goal

pub returns-then-end-block : goal.returns-then-end-block
returns-then-end-block c = step_none c.args.collector.now c.args.block.now c.args.out.now c.newline_from-end.result c.newline_from-end.ensures c.if-end-block.true

pub slice_bounds-reply-end : goal.slice_bounds-reply-end
slice_bounds-reply-end c =
    let w = first_within c.args.block.now c.newline_from-end.result c.newline_from-end.ensures in
    search rules

pub returns-in_err-put : goal.returns-in_err-put
returns-in_err-put c = rw c.from_residual.ensures (step_full c.args.collector.now c.args.block.now c.args.out.now c.newline_from-end.result c.newline_from-end.ensures c.if-end-block.false c.reply.ensures (sym c.ok.ensures.value ∙ c.in_err-put.was))

pub overflow_add-result : goal.overflow_add-result
overflow_add-result c =
    let w = first_within c.args.block.now c.newline_from-end.result c.newline_from-end.ensures in
    search rules

pub returns : goal.returns
returns c = step_some c.args.collector.now c.args.block.now c.args.out.now c.newline_from-end.result c.newline_from-end.ensures c.if-end-block.false c.reply.ensures (sym c.ok.ensures.value ∙ c.in_ok-put.was)
