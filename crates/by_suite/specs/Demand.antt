-- Demand 3 of a channel's collector. Document 02, C-12: "In the new one demand 3 speaks of the bytes after the first, all answers come from the collector's channel".
use Rattle.std.specs.Prelude.{ℕ, suc, ◌<◌, true, List, [], ◌∷◌, ◌⊎◌, ◌≡◌, length}
use Rattle.base.specs.Field.{byte}
use Rattle.base.specs.Outcome.{is_accepted}
use Rattle.collector.specs.Demand.{AllBytes, Call, Controllers, IsList, Keeper, controllers, made}
use Rattle.collector.specs.Histories as old
use Rattle.collector.specs.Stored.{after_stored, known_length, parts_of}
use Rattle.by_suite.specs.ChannelCollector.{channel_collector, current, fresh_for, start_of, taking_from, standing_from, list_from}
use Rattle.by_suite.specs.GetChannelCipherSuites.{is_channel, list_in, nibble, number_in}
use Rattle.by_suite.specs.declared.channel_collector.ChannelCollector.{ChannelCollector}

-- "one list and one channel number"
pub record Source : Type 0 where
  pub list : List ℕ
  pub number : ℕ

-- "which is the collector's unless it was made for Current"
pub record SuitsFor (channel : ℕ) (x : Source) : Type 0 where
  pub list : IsList x.list
  pub legal : is_channel x.number ≡ true
  pub same : (channel ≡ current) ⊎ (channel ≡ x.number)

-- a byte with that number in its low nibble, then what document 01's controller answers
pub record AnswersFrom (x : Source) (index : ℕ) (content : List ℕ) : Type 0 where
  pub first : ℕ
  pub part : List ℕ
  pub is : content ≡ first ∷ part
  pub small : first < 256
  pub number : nibble first ≡ x.number
  pub answers : controllers.Answers x.list index part

-- who answers a collector that is made for a channel; "Demand 3 supposes legal nibbles"
abbrev pub channel_controllers : ℕ → Controllers Source
channel_controllers channel = record { Suits = SuitsFor channel; list = λ x. x.list; Answers = AnswersFrom; Legal = λ content. is_accepted (number_in content) ≡ true }

-- the definitions that its promises cite
abbrev pub listening : ℕ → Keeper ChannelCollector
listening channel = record { fresh = fresh_for channel; taking = taking_from; standing = standing_from; list = list_from }

-- some calls make this collector from a fresh one, which is made for a channel
pub record ReachableFrom (s : ChannelCollector) : Type 0 where
  pub channel : ℕ
  pub legal : is_channel channel ≡ true
  pub calls : List Call
  pub bytes : AllBytes calls
  pub is : made (listening channel) calls ≡ s

-- a collector of the machine: its arrays have their lengths, its bytes are bytes
pub record TypedFrom (s : ChannelCollector) : Type 0 where
  pub parts : old.Typed (parts_of s.collector)
  pub known : length s.collector.known ≡ known_length

-- The projection: a history of this collector is a history of document 01's on the bytes after the first.

-- an answer without its first byte
abbrev pub tail_of : Call → Call
tail_of call = record { index = call.index; content = list_in call.content }

-- each of them
unfoldable pub tails : List Call → List Call
tails [] = []
tails (call ∷ earlier) = tail_of call ∷ tails earlier

-- one more than the number that the latest answer has; of none, what a fresh collector takes answers from
abbrev pub from_after : ℕ → List Call → ℕ
from_after channel [] = start_of channel
from_after channel (call ∷ earlier) = suc (nibble (byte 0 call.content))

-- what accepted answers make
abbrev pub state_after : ℕ → List Call → ChannelCollector
state_after channel calls = channel_collector channel (from_after channel calls) (after_stored (tails calls))
