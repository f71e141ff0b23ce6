use mathlib.Core.Path.{sym}
use native.Mathlib.Omega.{arith}
use lib.ListN.{length}
use lib.Seq.{length-take-le}
use Rattle.base.proofs.Verdict.{gave}
use Rattle.collector.specs.Stored.{taking_stored}
use Rattle.dump.proofs.Laws.{as_long, block_fits, heard_taken, stands, surely, unroomed}
use Rattle.dump.proofs.hear.Goals as goal

pub unwrap-n-requires : goal.unwrap-n-requires
unwrap-n-requires c =
    let f = block_fits c.args.index (length c.args.response.now) (omega arith) (omega arith) in
    surely c.block_text.ensures f

pub without_room-requires : goal.without_room-requires
without_room-requires c =
    let f = block_fits c.args.index (length c.args.response.now) (omega arith) (omega arith) in
    let e = as_long c.block_text.ensures f _ c.unwrap-n.ensures in
    omega arith

pub returns-then-out-n : goal.returns-then-out-n
returns-then-out-n c =
    let f = block_fits c.args.index (length c.args.response.now) (omega arith) (omega arith) in
    let e = as_long c.block_text.ensures f _ c.unwrap-n.ensures in
    unroomed c.args.collector.now c.args.index c.args.response.now (omega (arith, c.if-out-n.true)) c.without_room.ensures

pub slice_bounds-text-end : goal.slice_bounds-text-end
slice_bounds-text-end c =
    let f = block_fits c.args.index (length c.args.response.now) (omega arith) (omega arith) in
    let e = as_long c.block_text.ensures f _ c.unwrap-n.ensures in
    omega arith

pub slice_bounds-place-end : goal.slice_bounds-place-end
slice_bounds-place-end c =
    let f = block_fits c.args.index (length c.args.response.now) (omega arith) (omega arith) in
    let e = as_long c.block_text.ensures f _ c.unwrap-n.ensures in
    sym (length-take-le c.unwrap-n.result c.block_text.new.out (omega arith))

pub returns-in-Ok : goal.returns-in-Ok
returns-in-Ok c =
    let f = block_fits c.args.index (length c.args.response.now) (omega arith) (omega arith) in
    let e = as_long c.block_text.ensures f _ c.unwrap-n.ensures in
    let h = c.args.collector.now in
    heard_taken h c.args.index c.args.response.now _ (gave (taking_stored h c.args.index c.args.response.now) c.answer_in.ensures c.in-Ok.is) (omega arith)
    (rw (stands c.block_text.ensures f _ c.unwrap-n.ensures) at c.place.ensures)
