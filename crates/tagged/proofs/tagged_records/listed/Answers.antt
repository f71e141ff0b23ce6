use mathlib.Core.Path.{◌≡◌, sym, ap}
use native.Mathlib.Omega.{arith}
use lib.ListN.{take}
use Rattle.std.proofs.Common.{rules, Err}
use Rattle.base.proofs.written.Laws.{refusing}
use Rattle.tagged.proofs.tagged_records.Steps.{told_bad, told_end}
use Rattle.tagged.proofs.tagged_records.Listing.{no_room, turn_end, turn_first, turn_on, turn_reads, turn_room, uncounted}
use Rattle.tagged.proofs.tagged_records.listed.Goals as goal

pub returns-in_err-n : goal.returns-in_err-n
returns-in_err-n g c =
    let a = c.args in
    let r = c.in_err-n.field-0.0 in
    let e : c.from_residual.result ≡ Err r = search rules in
    rw e (refusing r a.out.now (uncounted a.list.now g.row.WIDTH r (sym c.in_err-n.ensures)))

pub returns-then-out-n : goal.returns-then-out-n
returns-then-out-n g c =
    let a = c.args in
    no_room a.list.now g.row.WIDTH c.requires.0 c.requires.1 (sym c.in_ok-n.ensures) a.out.now c.if-out-n.true

pub loop-from-init : goal.loop-from-init
loop-from-init g c =
    let a = c.args in
    turn_first a.list.now g.row.WIDTH c.requires.0 c.requires.1 (sym c.in_ok-n.ensures) a.out.now c.if-out-n.false

pub returns-in_err-end : goal.returns-in_err-end
returns-in_err-end g c = absurd (turn_reads c.loop-from.invariant c.loop-from-test.true _ (told_bad c.end_at.ensures c.in_err-end.was))

pub slice_bounds-copy_from_slice-end : goal.slice_bounds-copy_from_slice-end
slice_bounds-copy_from_slice-end g c =
    let (r, e, z) = told_end c.end_at.ensures c.in_ok-end.was in
    let h = turn_room c.loop-from.invariant c.loop-from-test.true c.requires.1 e in
    omega (arith, c.loop-from.invariant.same)

pub loop-from-preserved : goal.loop-from-preserved
loop-from-preserved g c =
    let (r, e, z) = told_end c.end_at.ensures c.in_ok-end.was in
    let f = ap (take g.row.WIDTH) (c.entry_at.ensures r e) in
    rw (← z, c.copy_from_slice.ensures.after) (turn_on c.loop-from.invariant c.loop-from-test.true c.requires.1 e f)

pub returns : goal.returns
returns g c = turn_end c.loop-from.invariant c.loop-from-test.false
