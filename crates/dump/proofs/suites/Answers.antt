use mathlib.Core.Path.{sym}
use native.Mathlib.Omega.{arith}
use lib.ListN.{length-replicate}
use lib.Seq.{length-take-le}
use Prim.Native.Nat.{ℕ}
use Rattle.suites.proofs.get_channel_cipher_suites.Records.{five_each}
use Rattle.dump.proofs.Laws.{as_long, stands, surely}
use Rattle.dump.proofs.suites.Goals as goal

pub unwrap-n-requires : goal.unwrap-n-requires
unwrap-n-requires c =
    let l = five_each c.args.list.now in
    let z = length-replicate {A = ℕ} 1024 0 in
    surely c.suite_numbers.ensures (omega arith)

pub slice_bounds-numbers-end : goal.slice_bounds-numbers-end
slice_bounds-numbers-end c =
    let l = five_each c.args.list.now in
    let z = length-replicate {A = ℕ} 1024 0 in
    let e = as_long c.suite_numbers.ensures (omega arith) _ c.unwrap-n.ensures in
    omega arith

pub slice_bounds-suites_text-end : goal.slice_bounds-suites_text-end
slice_bounds-suites_text-end c =
    let l = five_each c.args.list.now in
    let z = length-replicate {A = ℕ} 1024 0 in
    let e = as_long c.suite_numbers.ensures (omega arith) _ c.unwrap-n.ensures in
    sym (length-take-le c.unwrap-n.result c.suite_numbers.new.out (omega arith))

pub returns : goal.returns
returns c =
    let l = five_each c.args.list.now in
    let z = length-replicate {A = ℕ} 1024 0 in
    rw (stands c.suite_numbers.ensures (omega arith) _ c.unwrap-n.ensures) at c.suites_text.ensures
