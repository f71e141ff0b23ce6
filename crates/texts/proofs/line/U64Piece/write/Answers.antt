use native.Mathlib.Omega.{arith}
use Rattle.lines.proofs.Laws.{decimal_fits}
use Rattle.texts.proofs.line.U64Piece.write.Goals as goal

pub returns-clause-fits : goal.returns-clause-fits
returns-clause-fits c = decimal_fits c.args.self (omega arith)
