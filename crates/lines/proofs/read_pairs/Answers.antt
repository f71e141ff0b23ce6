use mathlib.Core.Path.{refl, sym, ap, ◌∙◌}
use Prim.Native.Nat.{◌*◌}
use native.Mathlib.Omega.{arith}
use lib.ListN.{get_or, length-set, set}
use lib.Seq.{paste-zero}
use Rattle.base.specs.declared.refusal.Refusal.TheVariants.{BadLine}
use Rattle.base.proofs.written.Laws.{fitting, lacking, refusing, stored, whole}
use Rattle.lines.proofs.Laws.{bytes_at, bytes_of, read, unread}
use Rattle.lines.proofs.read_pairs.Goals as goal

pub returns-then-not-are_pairs : goal.returns-then-not-are_pairs
returns-then-not-are_pairs c = refusing BadLine c.args.out.now (unread c.args.text.now (sym c.are_pairs.ensures ∙ c.if-not-are_pairs.true))

pub returns-then-out-n : goal.returns-then-out-n
returns-then-out-n c =
    let e = read c.args.text.now (sym c.are_pairs.ensures ∙ c.if-not-are_pairs.false) in
    let l = (bytes_at c.args.text.now (bytes_of c.args.text.now) e).0 in
    rw e (lacking (bytes_of c.args.text.now) c.args.out.now (omega arith))

pub loop-i-init : goal.loop-i-init
loop-i-init c =
    let e = read c.args.text.now (sym c.are_pairs.ensures ∙ c.if-not-are_pairs.false) in
    let l = (bytes_at c.args.text.now (bytes_of c.args.text.now) e).0 in
    (((omega arith, omega arith), (omega arith, omega arith)), (refl, paste-zero c.args.out.now 0 (bytes_of c.args.text.now)))

pub loop-i-preserved : goal.loop-i-preserved
loop-i-preserved c =
    let e = read c.args.text.now (sym c.are_pairs.ensures ∙ c.if-not-are_pairs.false) in
    let b = (bytes_at c.args.text.now (bytes_of c.args.text.now) e).1 c.loop-i.i (omega arith) in
    (((omega arith, omega arith), (omega arith, omega arith)), (simp length-set c.loop-i.invariant.1.0, ap (set c.loop-i.out c.loop-i.i) (c.joined.ensures (get_or c.args.text.now (3 * c.loop-i.i) 0) _ b) ∙ stored c.args.out.now (bytes_of c.args.text.now) c.loop-i.out c.loop-i.i c.loop-i.invariant.1.1 (omega arith) (omega arith)))

pub returns : goal.returns
returns c =
    let e = read c.args.text.now (sym c.are_pairs.ensures ∙ c.if-not-are_pairs.false) in
    let w = whole c.args.out.now (bytes_of c.args.text.now) c.loop-i.out c.loop-i.i c.loop-i.invariant.1.1 (omega arith) in
    rw (e, w, c.loop-i.invariant.0.1.1) (fitting (bytes_of c.args.text.now) c.args.out.now (omega arith))
