-- Channels. Document 01: "0 Primary, 1 to 0xB numbered, 0xE Current, 0xF System"; IPMI 2.0, Table 6-1.
use Rattle.std.specs.Prelude.{ℕ, List, [], ◌∷◌, ◌++◌, if◌then◌else◌, Option, Some}
use Rattle.base.specs.Choice.{if◌from◌to◌then◌else◌, ◌=?◌}
use Rattle.base.specs.Field.{within}
use Rattle.base.specs.Named.{named}
use Rattle.base.specs.Outcome.{Outcome, accepted, refused, ◌>>=◌}
use Rattle.base.specs.Text.{ascii, hex1}
use Rattle.base.specs.declared.connection.ChannelNumber.{ChannelNumber}
use Rattle.base.specs.declared.connection.Channel.{Channel}
use Rattle.base.specs.declared.connection.Channel.TheVariants.{Primary, Numbered, Current, System}
use Rattle.base.specs.declared.connection.LogicalUnit.{LogicalUnit}
use Rattle.base.specs.declared.connection.LogicalUnit.TheVariants.{Zero, One, Two, Three}

-- the Rust takes 0xB, and its comment does not
abbrev pub channel_number_of : ℕ → Outcome ChannelNumber
channel_number_of n = if n from 1 to 0xB then accepted (record { 0 = n }) else refused 6 []

-- "0 Primary, 1 to 0xB numbered, 0xE Current, 0xF System"; any other number 6
abbrev pub channel_of : ℕ → Outcome Channel
channel_of n =
    if n =? 0 then accepted Primary else
    if n =? 0xE then accepted Current else
    if n =? 0xF then accepted System else do
      number ← channel_number_of n
      accepted (Numbered number)

-- "a numbered channel that no number makes .. has as its value, the number it holds"
abbrev pub value_of : Channel → ℕ
value_of Primary = 0
value_of (Numbered number) = number.0
value_of Current = 0xE
value_of System = 0xF

-- the number that makes a channel, in a message: 9 where no number does
abbrev pub channel_field : Channel → Outcome ℕ
channel_field Primary = accepted 0
channel_field (Numbered number) = within 1 0xB number.0
channel_field Current = accepted 0xE
channel_field System = accepted 0xF

-- the Rust's Display; "a numbered channel that no number makes shows .. the number it holds"
abbrev pub channel_text : Channel → List ℕ
channel_text Primary = ascii "Primary channel"
channel_text (Numbered number) = ascii "Channel 0x" ++ hex1 number.0
channel_text Current = ascii "Current channel"
channel_text System = ascii "System channel"

-- from 0 up: a unit's number has two bits
abbrev pub units : List (Option LogicalUnit)
units = Some Zero ∷ Some One ∷ Some Two ∷ Some Three ∷ []

-- the unit of a number: connection/mod.rs, LogicalUnit
abbrev pub unit_of : ℕ → Option LogicalUnit
unit_of n = named units n

-- its number
abbrev pub unit_value : LogicalUnit → ℕ
unit_value Zero = 0
unit_value One = 1
unit_value Two = 2
unit_value Three = 3
