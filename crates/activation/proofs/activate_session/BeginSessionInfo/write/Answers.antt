use borrow.Author.Tests.{eq-eqb}
use native.Mathlib.Omega.{arith}
use Rattle.base.specs.declared.refusal.Refusal.TheVariants.{NoForm}
use Rattle.base.proofs.written.Laws.{refusing}
use Rattle.activation.proofs.activate_session.BeginSessionInfo.write.Goals as goal

pub returns-then-self-eq0 : goal.returns-then-self-eq0
returns-then-self-eq0 c = refusing NoForm c.args.out.now (simp (eq-eqb c.args.self.session_id 0 (omega arith)))
