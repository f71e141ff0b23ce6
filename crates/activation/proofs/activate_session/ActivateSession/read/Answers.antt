use Rattle.std.proofs.Common.{rules}
use native.Mathlib.Omega.{arith}
use Rattle.activation.proofs.activate_session.Laws.{last_four}
use Rattle.activation.proofs.activate_session.ActivateSession.read.Goals as goal

pub returns : goal.returns
returns c = search (rules, last_four c.args.request.now (omega arith))
