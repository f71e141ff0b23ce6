-- The collector: its parts, and what is known of them. Document 02, C-15: "Store it in the collector, with the completeness, and have every accepted answer keep both equal to what a search would find."
use Rattle.std.specs.Prelude.{ℕ, Bool, List, [], ◌∷◌, ◌≡◌, get_or, replicate, if◌then◌else◌}
use mir.Val.{bool_byte}
use Rattle.base.specs.Choice.{◌=?◌}
use Rattle.base.specs.Outcome.{Outcome, accepted, refused, ◌>>=◌}
use Rattle.collector.specs.Collector.{◌and◌, parts, held, fresh, lowest, complete_by, well_formed, taking, standing_of, list_of}
use Rattle.collector.specs.declared.Status.{Status}
use Rattle.collector.specs.Demand.{Call, AllBytes, Keeper, made}
use Rattle.collector.specs.Parts.{Parts}
use Rattle.collector.specs.declared.Collector.{Collector}

-- the lowest unheard index, and "the completeness"
abbrev pub known_length : ℕ
known_length = 2

-- "what a search would find": the lowest unheard index, 64 where there is none; 1 where the list is complete
abbrev pub found : List ℕ → List ℕ
found marks = lowest marks parts ∷ bool_byte (complete_by marks) ∷ []

-- the collector that is lent in three arrays
abbrev pub collector_of : List ℕ → List ℕ → List ℕ → Collector
collector_of bytes marks known = record { bytes = bytes; marks = marks; known = known }

-- without what is known
abbrev pub parts_of : Collector → Parts
parts_of k = held k.bytes k.marks

-- with what a search would find
abbrev pub knowing : Parts → Collector
knowing c = collector_of c.bytes c.marks (found c.marks)

-- nothing heard: the lowest unheard index is 0, the list is not complete
abbrev pub fresh_stored : Collector
fresh_stored = collector_of fresh.bytes fresh.marks (replicate known_length 0)

-- "both equal to what a search would find"
unfoldable pub knows : Collector → Bool
knows k = (get_or k.known 0 0 =? lowest k.marks parts) and (get_or k.known 1 0 =? bool_byte (complete_by k.marks))

-- the test that every entry runs: it passes exactly for the collectors that calls make from a fresh one (proofs/Stored.antt)
abbrev pub well_stored : Collector → Bool
well_stored k = well_formed (parts_of k) and knows k

-- 9 for "a collector that no calls make from a fresh one"; else the outcome of its parts: "No answer of document 01 changes."
abbrev pub tested : {A : Type 0} → Collector → Outcome A → Outcome A
tested k outcome = if well_stored k then outcome else refused 9 []

-- the collector after an answer
unfoldable pub taking_stored : Collector → ℕ → List ℕ → Outcome Collector
taking_stored k i part = tested k (taking (parts_of k) i part >>= (λ c. accepted (knowing c)))

-- where it stands
abbrev pub standing_stored : Collector → Outcome Status
standing_stored k = tested k (standing_of (parts_of k))

-- its list
abbrev pub list_stored : Collector → Outcome (List ℕ)
list_stored k = tested k (list_of (parts_of k))

-- the definitions that its promises cite
abbrev pub storing : Keeper Collector
storing = record { fresh = fresh_stored; taking = taking_stored; standing = standing_stored; list = list_stored }

-- the collector that the calls make from a fresh one
abbrev pub after_stored : List Call → Collector
after_stored calls = made storing calls

-- some calls make this collector from a fresh one
pub record ReachableStored (k : Collector) : Type 0 where
  pub calls : List Call
  pub bytes : AllBytes calls
  pub made : after_stored calls ≡ k
