-- What the lines of a block come to, a line at a time: the promises of private functions.
use Rattle.std.specs.Prelude.{ℕ, ◌-◌, ◌≤◌, ◌<◌, List, [], ◌++◌, ◌≡◌, length, drop, Option, Some, None}
use Rattle.collector.specs.declared.Collector.{Collector}
use Rattle.stream.specs.Stream.{Feeds, ended_lines, fitting}
use Rattle.stream.specs.declared.Fed.{Fed}

-- some lines were answered: those that fit are they and what fits of the rest
pub record Went (c : Collector) (block : List ℕ) (r : Fed) (before after : List ℕ) (left : Collector) : Type 0 where
  pub lines : List (List ℕ)
  pub all : fitting (length before) c (ended_lines block) ≡ lines ++ fitting (length before - r.put) left (ended_lines (drop r.taken block))
  pub feeds : Feeds c lines r before after left
  pub most : r.taken ≤ length block
  pub room : r.put ≤ length before

-- a step takes something, or nothing fits, and then nothing changes
abbrev pub Steps : Collector → List ℕ → Option Fed → List ℕ → List ℕ → Collector → Type 0
Steps c block (Some r) before after left = Went c block r before after left × (0 < r.taken)
Steps c block None before after left = (fitting (length before) c (ended_lines block) ≡ []) × (after ≡ before) × (left ≡ c)
