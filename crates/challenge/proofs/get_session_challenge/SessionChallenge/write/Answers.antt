use borrow.Author.Tests.{eq-eqb}
use native.Mathlib.Omega.{arith}
use Rattle.base.specs.declared.refusal.Refusal.TheVariants.{NoForm}
use Rattle.base.proofs.written.Laws.{refusing}
use Rattle.challenge.proofs.get_session_challenge.SessionChallenge.write.Goals as goal

pub returns-then-self-eq0 : goal.returns-then-self-eq0
returns-then-self-eq0 c =
    let a = c.args in
    refusing NoForm a.out.now (simp (eq-eqb a.self.temporary_session_id 0 (omega arith)))
