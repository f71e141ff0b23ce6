use mathlib.Core.Path.{sym}
use native.Mathlib.Omega.{arith}
use lib.Seq.{length-take-le}
use Rattle.dump.proofs.Laws.{behind, brief, kept, long, read_as, readable, unreadable}
use Rattle.dump.proofs.dump.Goals as goal

pub returns-then-line-gt-LONGEST : goal.returns-then-line-gt-LONGEST
returns-then-line-gt-LONGEST c = rw (long c.args.collector.now c.args.line.now (omega arith)) (kept c.args.collector.now c.refused.ensures)

pub returns-then-line-lt-LETTERS : goal.returns-then-line-lt-LETTERS
returns-then-line-lt-LETTERS c = rw (brief c.args.collector.now c.args.line.now (omega arith)) (kept c.args.collector.now c.refused-then-line-lt-LETTERS.ensures)

pub returns-in_default : goal.returns-in_default
returns-in_default c =
    rw
    (unreadable c.args.collector.now c.args.line.now (omega arith) (omega arith) (rw (c.in_default.is, behind c.args.line.now) at c.read_pairs.ensures))
    (kept c.args.collector.now c.refused-in_default.ensures)

pub slice_bounds-pairs-end : goal.slice_bounds-pairs-end
slice_bounds-pairs-end c =
    let r = (readable c.args.collector.now c.args.line.now (omega arith) (omega arith) (rw (c.in-Ok.is, behind c.args.line.now) at c.read_pairs.ensures)).0 in
    omega arith

pub slice_bounds-say-end : goal.slice_bounds-say-end
slice_bounds-say-end c =
    let r = (readable c.args.collector.now c.args.line.now (omega arith) (omega arith) (rw (c.in-Ok.is, behind c.args.line.now) at c.read_pairs.ensures)).0 in
    sym (length-take-le c.in-Ok.n c.read_pairs.new.out (omega arith))

pub returns : goal.returns
returns c =
    let h = c.args.collector.now in
    let r = (readable h c.args.line.now (omega arith) (omega arith) (rw (c.in-Ok.is, behind c.args.line.now) at c.read_pairs.ensures)).1 in
    rw (read_as h c.args.line.now (omega arith) _ r, ← c.word_of.ensures) c.say.ensures
