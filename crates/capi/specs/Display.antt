-- The texts of what C gives by a number.
use Rattle.std.specs.Prelude.{ℕ, List}
use Rattle.base.specs.Connection.{channel_of, channel_text}
use Rattle.base.specs.Outcome.{Outcome, accepted, ◌>>=◌}

-- "Display texts": of a channel that is given as a number, 6 where it is none
abbrev pub channel_name : ℕ → Outcome (List ℕ)
channel_name number = do
  channel ← channel_of number
  accepted (channel_text channel)
