-- Get Channel Cipher Suites, asked by suite. Document 02, C-12: "bit 7 of the request's last byte asks for the list by suite"; IPMI 2.0, Table 22-17.
use Rattle.std.specs.Prelude.{ℕ, Bool, List, [], ◌∷◌, length, drop, if◌then◌else◌}
use Rattle.base.specs.Choice.{◌<?◌}
use Rattle.base.specs.Connection.{channel_of, channel_field}
use Rattle.base.specs.Field.{bits}
use Rattle.base.specs.Outcome.{Outcome, accepted, refused, ◌>>=◌, is_accepted}
use Rattle.base.specs.declared.connection.Channel.{Channel}
use Rattle.collector.specs.Collector.{part_length}
use Rattle.suites.specs.GetChannelCipherSuites as suites
use Rattle.suites.specs.GetChannelCipherSuites.{part, suites_bytes}
use Rattle.suites.specs.declared.get_channel_cipher_suites.ChannelCipherSuites.{ChannelCipherSuites}
use Rattle.by_suite.specs.declared.get_channel_cipher_suites.ChannelSuites.{ChannelSuites}

-- The request is the crate's, `command_bytes` and the rest of `suites`, with this bit above the index.

-- "bit 7 of the request's last byte"
abbrev pub list_by_suite : ℕ
list_by_suite = 0x80

-- The answer: "a channel byte comes first, then up to sixteen record bytes".

-- "The number in the low nibble": the high one is not looked at
abbrev pub nibble : ℕ → ℕ
nibble first = bits 0 4 first

-- a number that a channel has
unfoldable pub is_channel : ℕ → Bool
is_channel n = is_accepted (channel_of n)

-- the channel's number in an answer: "1 for no bytes, 2 above 17, 6 for a nibble 0xC or 0xD"
abbrev pub number_in : List ℕ → Outcome ℕ
number_in [] = refused 1 []
number_in (first ∷ list) =
    if part_length <? length list then refused 2 [] else
    if is_channel (nibble first) then accepted (nibble first) else refused 6 []

-- the bytes behind it, which are the list's
abbrev pub list_in : List ℕ → List ℕ
list_in response = drop 1 response

-- an answer holds its channel and its part of the list
abbrev pub answer : Channel → ChannelCipherSuites → ChannelSuites
answer channel suites = record { channel = channel; suites = suites }

-- the answer, read alone
abbrev pub answer_of : List ℕ → Outcome ChannelSuites
answer_of response = do
  number ← number_in response
  channel ← channel_of number
  accepted (answer channel (part (list_in response)))

-- what every answer of the machine has
abbrev pub Typed : ChannelSuites → Type 0
Typed a = suites.Typed a.suites

-- the same, written, the high nibble 0: 9 for what no answer reads as
abbrev pub answer_bytes : ChannelSuites → Outcome (List ℕ)
answer_bytes a = do
  number ← channel_field a.channel
  list ← suites_bytes a.suites
  accepted (number ∷ list)
