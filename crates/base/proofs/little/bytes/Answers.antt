use mathlib.Core.Path.{sym, ◌∙◌}
use mathlib.Core.List.{append-nil}
use Rattle.std.proofs.Common.{rules, ◌≡◌, ◌-◌}
use Rattle.std.proofs.lemmas.List.{take_all}
use native.Mathlib.Omega.{arith}
use lib.ListN.{length-replicate, length-set}
use Rattle.base.proofs.little.Laws.{written_byte}
use Rattle.base.proofs.little.bytes.Goals as goal

pub loop-byte-init : goal.loop-byte-init
loop-byte-init g c = search (rules, length-replicate)

pub loop-byte-preserved : goal.loop-byte-preserved
loop-byte-preserved g c =
    let i = c.loop-byte.invariant in
    (simp length-set i.0, omega arith, written_byte g.row.N c.loop-byte.byte-index c.loop-byte.rest c.loop-byte.byte-items _ i.0 c.loop-byte-test.true i.2)

pub returns : goal.returns
returns g c =
    let i = c.loop-byte.invariant in
    let z : g.row.N - c.loop-byte.byte-index ≡ 0 = omega arith in
    sym (i.2 ∙ rw (z, take_all c.loop-byte.byte-index c.loop-byte.byte-items (omega arith)) (append-nil _))
