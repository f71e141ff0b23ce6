use mathlib.Core.Path.{sym, ◌∙◌, ap}
use native.Mathlib.Omega.{arith}
use lib.ListN.{length-set, set}
use Rattle.base.proofs.written.Laws.{fitting, lacking, stored, whole}
use Rattle.suites.specs.GetChannelCipherSuites.{numbers_of}
use Rattle.suites.proofs.get_channel_cipher_suites.Records.{numbered_at}
use Rattle.suites.proofs.get_channel_cipher_suites.suite_numbers.Goals as goal

pub returns-then-out-n : goal.returns-then-out-n
returns-then-out-n c =
    let s = c.args.list.now in
    let e = c.count-n.ensures in
    lacking (numbers_of s) c.args.out.now (omega arith)

pub overflow_mul-out : goal.overflow_mul-out
overflow_mul-out c =
    let s = c.args.list.now in
    let e = c.count-n.ensures in
    let h = numbered_at s c.loop-i.i (omega arith) in
    omega arith

pub overflow_add-out : goal.overflow_add-out
overflow_add-out c =
    let s = c.args.list.now in
    let e = c.count-n.ensures in
    let h = numbered_at s c.loop-i.i (omega arith) in
    omega arith

pub bounds-list-i : goal.bounds-list-i
bounds-list-i c =
    let s = c.args.list.now in
    let e = c.count-n.ensures in
    let h = numbered_at s c.loop-i.i (omega arith) in
    omega arith

pub loop-i-preserved : goal.loop-i-preserved
loop-i-preserved c =
    let s = c.args.list.now in
    let e = c.count-n.ensures in
    let h = numbered_at s c.loop-i.i (omega arith) in
    let l = c.loop-i.invariant in
    let o = c.args.out.now in
    ((omega arith, omega arith), (simp length-set l.1.0, ap (set c.loop-i.out c.loop-i.i) (sym h.1) ∙ stored o (numbers_of s) c.loop-i.out c.loop-i.i l.1.1 (omega arith) (omega arith)))

pub returns : goal.returns
returns c =
    let a = c.args in
    let e = c.count-n.ensures in
    let l = c.loop-i.invariant in
    let w = whole a.out.now (numbers_of a.list.now) c.loop-i.out c.loop-i.i l.1.1 (omega arith) in
    rw (e, w) (fitting (numbers_of a.list.now) a.out.now (omega arith))
