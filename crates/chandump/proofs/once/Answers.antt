use native.Mathlib.Omega.{arith}
use Rattle.chandump.proofs.Laws.{read_length, read_some, read_within}
use Rattle.chandump.proofs.once.Goals as goal

pub answer-requires : goal.answer-requires
answer-requires c =
    let n = c.in-Some.n in
    let b = c.receive.new.block in
    let l = c.receive.auto.block in
    let w = rw c.in-Some.is at c.in_ok-receive.ensures in
    let e = read_length b c.requires l in
    (read_some b c.requires l n w, (omega (arith, e, read_within b c.requires l n w), omega (arith, e, c.requires.more)))
