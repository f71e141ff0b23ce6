-- What the program keeps: its calls are those of a run. That what it reads comes from `read`, and that what it puts goes to `write`, no contract can say.
use Rattle.std.specs.Prelude.{ℕ, ◌≤◌, ◌<◌, List, ◌++◌, ◌≡◌, length, take, drop}
use Rattle.collector.specs.declared.Collector.{Collector}
use Rattle.dump.specs.Input.{Line, output_of}
use Rattle.stream.specs.Stream.{Reached, limit}
use Rattle.stream.specs.declared.Fed.{Fed}

-- a run comes to this, whatever it has read and written
pub record Ran (rest : List ℕ) (c : Collector) : Type 0 where
  pub input : List ℕ
  pub text : List ℕ
  pub reached : Reached input text rest c

-- Some lines of a block are answered: what stands at the start of the buffer is what a run writes. Nothing is taken only where no line is left.
pub record Answered (block : List ℕ) (r : Fed) (out : List ℕ) (c left : Collector) : Type 0 where
  pub grows : {input text : List ℕ} → Reached input text block c → Reached input (text ++ take r.put out) (drop r.taken block) left
  pub most : r.taken ≤ length block
  pub none : r.taken ≡ 0 → Line block

-- all lines of a block are answered
pub record Whole (block : List ℕ) (at : ℕ) (left : Collector) : Type 0 where
  pub ran : Ran (drop at block) left
  pub most : at ≤ length block
  pub line : Line (drop at block)

-- Before a read: what is held is an unfinished line and no longer than tells, and there is room behind it.
pub record Ready (held : ℕ) (block : List ℕ) (c : Collector) : Type 0 where
  pub ran : Ran (take held block) c
  pub line : Line (take held block)
  pub small : held ≤ limit
  pub more : limit < length block

-- At the end: with what is put last, all that was put is the output of all that was read.
pub record Ended (put : ℕ) (out : List ℕ) : Type 0 where
  pub input : List ℕ
  pub text : List ℕ
  pub whole : text ++ take put out ≡ output_of input
