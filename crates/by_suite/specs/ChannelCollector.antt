-- The collector of one channel's answers. Document 02, C-12: "a collector is made for one of the two, and in the new one for a channel".
use Rattle.std.specs.Prelude.{ℕ, suc, ◌-◌, Bool, false, List, [], if◌then◌else◌}
use Rattle.base.specs.Choice.{◌<?◌, ◌=?◌}
use Rattle.base.specs.Connection.{value_of}
use Rattle.base.specs.Outcome.{Outcome, accepted, refused, ◌>>=◌}
use Rattle.base.specs.declared.connection.Channel.TheVariants.{Current}
use Rattle.collector.specs.Collector.{◌and◌, ◌or◌, last_index}
use Rattle.collector.specs.Stored.{collector_of, fresh_stored, well_stored, taking_stored, standing_stored, list_stored}
use Rattle.collector.specs.declared.Collector.{Collector}
use Rattle.collector.specs.declared.Status.{Status}
use Rattle.suites.specs.Collected.{suites_of}
use Rattle.suites.specs.GetChannelCipherSuites.{zeros}
use Rattle.by_suite.specs.GetChannelCipherSuites.{is_channel, list_in, number_in}
use Rattle.by_suite.specs.declared.channel_collector.ChannelCollector.{ChannelCollector}

-- the number of Current
abbrev pub current : ℕ
current = value_of Current

-- `channel` is the number that it was made for, `from` one more than the number that its answers have, 0 while none is taken
abbrev pub channel_collector : ℕ → ℕ → Collector → ChannelCollector
channel_collector channel from collector = record { channel = channel; from = from; collector = collector }

-- the one that is lent as a number, a byte and three arrays
abbrev pub lent_as : ℕ → ℕ → List ℕ → List ℕ → List ℕ → ChannelCollector
lent_as channel from bytes marks known = channel_collector channel from (collector_of bytes marks known)

-- none is taken yet: "a collector made for Current takes it from the first accepted answer"
abbrev pub start_of : ℕ → ℕ
start_of channel = if channel =? current then 0 else suc channel

-- "6 also when made for a bad channel"
abbrev pub from_for : ℕ → Outcome ℕ
from_for channel = if is_channel channel then accepted (start_of channel) else refused 6 []

-- nothing heard
abbrev pub fresh_for : ℕ → ChannelCollector
fresh_for channel = channel_collector channel (start_of channel) fresh_stored

-- made for a channel
abbrev pub made_for : ℕ → Outcome ChannelCollector
made_for channel = do
  from ← from_for channel
  accepted (channel_collector channel from fresh_stored)

-- "The number in the low nibble has to be that channel", or none is taken yet
abbrev pub agrees : ℕ → ℕ → Bool
agrees from number = (from =? 0) or (from =? suc number)

-- made for Current: a channel is taken exactly where a part was heard
abbrev pub taken_fits : ℕ → List ℕ → Bool
taken_fits from marks = if zeros marks then from =? 0 else if from =? 0 then false else is_channel (from - 1)

-- else it is the one that it was made for
abbrev pub from_fits : ℕ → ℕ → List ℕ → Bool
from_fits channel from marks = if channel =? current then taken_fits from marks else if is_channel channel then from =? suc channel else false

-- the test that every entry runs: it passes exactly for what calls make from a fresh one (proofs/Reach.antt)
abbrev pub well_made : ChannelCollector → Bool
well_made s = from_fits s.channel s.from s.collector.marks and well_stored s.collector

-- 9 for a collector that no calls make
abbrev pub tested_from : {A : Type 0} → ChannelCollector → Outcome A → Outcome A
tested_from s outcome = if well_made s then outcome else refused 9 []

-- the channel's number in an answer that may be taken: "7, then 1 for no bytes, 2 above 17, 6 for a nibble 0xC or 0xD, then 15 WrongChannel"
abbrev pub heard_by : ℕ → ℕ → List ℕ → Outcome ℕ
heard_by from index response = if last_index <? index then refused 7 [] else do
  number ← number_in response
  if agrees from number then accepted number else refused 15 []

-- the same behind the test of what it takes answers from, the collector's own test aside
abbrev pub heard_on : ℕ → ℕ → List ℕ → ℕ → List ℕ → Outcome ℕ
heard_on channel from marks index response = if from_fits channel from marks then heard_by from index response else refused 9 []

-- the collector after an answer, its bytes after the first being the list's: "9, then" those, "then 12"
unfoldable pub taking_from : ChannelCollector → ℕ → List ℕ → Outcome ChannelCollector
taking_from s index response = tested_from s (do
  number ← heard_by s.from index response
  collector ← taking_stored s.collector index (list_in response)
  accepted (channel_collector s.channel (suc number) collector))

-- where it stands
abbrev pub standing_from : ChannelCollector → Outcome Status
standing_from s = tested_from s (standing_stored s.collector)

-- its list
abbrev pub list_from : ChannelCollector → Outcome (List ℕ)
list_from s = tested_from s (list_stored s.collector)

-- the suites of its list
abbrev pub suites_from : ChannelCollector → Outcome (List ℕ)
suites_from s = tested_from s (suites_of s.collector)
