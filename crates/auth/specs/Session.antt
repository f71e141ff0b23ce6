-- Session numbers. IPMI 2.0, 22.16 and 22.17: 0 is no session's.
use Rattle.std.specs.Prelude.{ℕ, []}
use Rattle.base.specs.Choice.{if◌then◌else◌, ◌=?◌}
use Rattle.base.specs.Outcome.{Outcome, accepted, refused}

-- a session's number: 3 where it is read, 9 where it is to be written
abbrev pub non_zero : ℕ → ℕ → Outcome ℕ
non_zero refusal n = if n =? 0 then refused refusal [] else accepted n
