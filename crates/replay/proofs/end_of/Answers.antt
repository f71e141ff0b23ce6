use native.Mathlib.Omega.{arith}
use Rattle.lines.proofs.Laws.{newline_within}
use Rattle.replay.proofs.end_of.Goals as goal

pub returns : goal.returns
returns c =
    let w = newline_within c.args.block.now c.args.at (omega arith) in
    rw c.newline_from.ensures w
