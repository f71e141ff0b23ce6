-- What is lent or given by value stays as it was where an answer is refused.
use Rattle.std.specs.Prelude.{◌≡◌, Result}
use Rattle.base.specs.Outcome.{Outcome, accepted, refused}
use Rattle.base.specs.Refusal.{said}
use Rattle.base.specs.declared.refusal.Refusal.{Refusal}

-- an outcome without its record
abbrev pub verdict_of : {A : Type 0} → Outcome A → Outcome (Unit {0})
verdict_of (accepted a) = accepted tt
verdict_of (refused number carried) = refused number carried

-- the record of an outcome: where it is refused, another
abbrev pub record_of : {A : Type 0} → A → Outcome A → A
record_of before (accepted a) = a
record_of before (refused number carried) = before

-- The promise of every function that changes a record: its verdict, and the record behind it, which is as before where it is refused.
pub record Gives {A : Type 0} (outcome : Outcome A) (before : A) (verdict : Result (Unit {0}) Refusal) (after : A) : Type 0 where
  pub says : said verdict ≡ verdict_of outcome
  pub holds : after ≡ record_of before outcome
