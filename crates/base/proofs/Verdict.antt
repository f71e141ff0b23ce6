-- Laws of answers that stand beside what they change.
use mathlib.Core.Path.{◌≡◌, refl, ap, sym, ◌∙◌}
use Rattle.base.specs.Outcome.{Outcome, accepted, refused}
use Rattle.std.specs.Prelude.{Result, Ok, Err}
use Rattle.base.specs.Refusal.{refusal, row, said}
use Rattle.base.specs.Verdict.{Gives}
use Rattle.base.specs.declared.refusal.Refusal.{Refusal}
use Rattle.base.proofs.Outcome.{apart}
use Rattle.base.proofs.Said.{said_one}

-- a record is given
pub giving : {A : Type 0} {outcome : Outcome A} (empty a : A) → outcome ≡ accepted a → Gives outcome empty (Ok tt) a
giving empty a e = rw e (record { says = refl; holds = refl })

-- a refusal stands beside the empty record
pub refusing : {A : Type 0} {outcome : Outcome A} (empty : A) (r : Refusal) → outcome ≡ refusal r → Gives outcome empty (Err r) empty
refusing empty r e = rw e (record { says = refl; holds = refl })

-- where a record was given, and where it was refused
pub gave : {A : Type 0} (outcome : Outcome A) {empty a : A} {v : Result (Unit {0}) Refusal} → Gives outcome empty v a → v ≡ Ok tt → outcome ≡ accepted a
gave (accepted b) g e = ap accepted (sym g.holds)
gave (refused n w) g e = absurd (apart (sym (sym (ap said e) ∙ g.says)))

pub fell : {A : Type 0} (outcome : Outcome A) {empty a : A} {v : Result (Unit {0}) Refusal} (r : Refusal) → Gives outcome empty v a → v ≡ Err r → (outcome ≡ refusal r) × (a ≡ empty)
fell (accepted b) r g e = absurd (apart (sym (ap said e) ∙ g.says))
fell (refused n w) r g e = (alike (sym (ap said e) ∙ g.says), g.holds)
  where
    alike : {B : Type 0} → ◌≡◌ {A = Outcome (Unit {0})} (refused (row r).0 (row r).1) (refused n w) → ◌≡◌ {A = Outcome B} (refused n w) (refused (row r).0 (row r).1)
    alike e = cc

-- the verdict and the record are fixed
same_verdict : {A : Type 0} {outcome : Outcome A} {empty g g' : A} {v v' : Result (Unit {0}) Refusal} → Gives outcome empty v g → Gives outcome empty v' g' → v ≡ v'
same_verdict {v} {v'} p q = said_one v v' (p.says ∙ sym q.says)

same_record : {A : Type 0} {outcome : Outcome A} {empty g g' : A} {v v' : Result (Unit {0}) Refusal} → Gives outcome empty v g → Gives outcome empty v' g' → g ≡ g'
same_record p q = p.holds ∙ sym q.holds

-- so an answer that is made of the two is fixed
pub beside : {X A : Type 0} (make : Result (Unit {0}) Refusal → A → X) {outcome : Outcome A} {empty g g' : A} {v v' : Result (Unit {0}) Refusal} → Gives outcome empty v g → Gives outcome empty v' g' → make v g ≡ make v' g'
beside make p q = rw (same_verdict p q, same_record p q)
