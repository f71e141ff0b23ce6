-- Histories of a collector's parts: any calls, the latest first.
use Rattle.std.specs.Prelude.{List, [], ◌∷◌, ◌⊎◌, ◌≡◌, length}
use Rattle.base.specs.Field.{Bytes}
use Rattle.collector.specs.Collector.{capacity, parts}
use Rattle.collector.specs.Demand.{Call, AllBytes, collecting, made, taken}
use Rattle.collector.specs.Parts.{Parts}

-- the parts that the calls make from fresh ones
abbrev pub after : List Call → Parts
after calls = made collecting calls

-- those of the calls that were accepted
abbrev pub accepted_of : List Call → List Call
accepted_of calls = taken collecting calls

-- the call is one of the calls
abbrev pub Among : Call → List Call → Type 0
Among call [] = ⊥
Among call (other ∷ earlier) = (other ≡ call) ⊎ Among call earlier

-- some calls make these parts from fresh ones
pub record Reachable (c : Parts) : Type 0 where
  pub calls : List Call
  pub bytes : AllBytes calls
  pub made : after calls ≡ c

-- parts of the machine: their arrays have their lengths, their bytes are bytes
pub record Typed (c : Parts) : Type 0 where
  pub bytes : length c.bytes ≡ capacity
  pub marks : length c.marks ≡ parts
  pub small : Bytes c.bytes
