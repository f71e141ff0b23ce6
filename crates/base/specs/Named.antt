-- Names of numbers. Document 01: a number "that names nothing answers none, which counts as accepted".
use Rattle.std.specs.Prelude.{ℕ, List, get_or, Option, Some, None}
use Rattle.base.specs.Outcome.{Outcome, accepted, refused}

-- what a number names, by the names of the numbers from 0 up; past them, nothing
abbrev pub named : {A : Type 0} → List (Option A) → ℕ → Option A
named names n = get_or names n None

-- where a message has to name something: refused, with what the refusal carries, where it does not
abbrev pub required : {A : Type 0} → ℕ → List ℕ → Option A → Outcome A
required number carried (Some a) = accepted a
required number carried None = refused number carried
