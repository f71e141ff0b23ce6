-- Requests. Document 01, row 10 of the refusals: NotARequest.
use Rattle.std.specs.Prelude.{ℕ, List, [], length, if◌then◌else◌}
use Rattle.base.specs.Choice.{◌=?◌}
use Rattle.base.specs.Outcome.{Outcome, refused, faults_as}

-- what the fields of a request come to, which has so many bytes: "a request reader turns every fault into 10", another length too
abbrev pub request : {A : Type 0} → ℕ → List ℕ → Outcome A → Outcome A
request width bytes fields = if length bytes =? width then faults_as 10 fields else refused 10 []
