-- chandump between reading and writing: what is answered of a block of the input, and what is left of it. Document 01, "chandump".
use Rattle.std.specs.Prelude.{ℕ, suc, ◌-◌, Result, List, [], ◌∷◌, ◌++◌, ◌≡◌, length, take, drop, if◌then◌else◌}
use Rattle.base.specs.Choice.{◌<?◌, ◌=?◌}
use Rattle.base.specs.Outcome.{accepted}
use Rattle.base.specs.Written.{Writes}
use Rattle.base.specs.declared.refusal.Refusal.{Refusal}
use Rattle.collector.specs.Stored.{fresh_stored}
use Rattle.collector.specs.declared.Collector.{Collector}
use Rattle.lines.specs.Lines.{newline}
use Rattle.dump.specs.Dump.{answering, longest}
use Rattle.dump.specs.Input.{Line, answer_to, answers_from, collector_from, heading, joined}
use Rattle.stream.specs.declared.Fed.{Fed}

-- the lines of a block that a newline ends, behind what is held of the first
unfoldable pub ended_from : List ℕ → List ℕ → List (List ℕ)
ended_from [] held = []
ended_from (byte ∷ block) held = if byte =? newline then held ∷ ended_from block [] else ended_from block (held ++ (byte ∷ []))

-- the lines of a block that a newline ends
abbrev pub ended_lines : List ℕ → List (List ℕ)
ended_lines block = ended_from block []

-- as many of the lines as have room for their answers, one behind the other
unfoldable pub fitting : ℕ → Collector → List (List ℕ) → List (List ℕ)
fitting room c [] = []
fitting room c (line ∷ lines) =
    if room <? length (answer_to c line) then [] else line ∷ fitting (room - length (answer_to c line)) (answering c line).collector lines

-- The promise of what answers lines of a block: how many bytes they are, with their newlines; how many their answers are; the
-- answers at the start of the lent buffer; and the collector behind them.
pub record Feeds (c : Collector) (lines : List (List ℕ)) (r : Fed) (before after : List ℕ) (left : Collector) : Type 0 where
  pub takes : r.taken ≡ length (joined lines)
  pub puts : r.put ≡ length (answers_from c lines)
  pub leaves : after ≡ answers_from c lines ++ drop (length (answers_from c lines)) before
  pub collects : left ≡ collector_from c lines

-- The promise of what writes the answers to some lines or none; 11 where they have no room, and then nothing changes.
pub record Replies (c : Collector) (lines : List (List ℕ)) (r : Result ℕ Refusal) (before after : List ℕ) (left : Collector) : Type 0 where
  pub writes : Writes (accepted (answers_from c lines)) r before after
  pub leaves : left ≡ (if length before <? length (answers_from c lines) then c else collector_from c lines)

-- so much room has any answer with its newline
abbrev pub enough : ℕ
enough = 1025

-- so much of an unfinished line tells that it is too long, whatever its tail holds
abbrev pub limit : ℕ
limit = suc longest

-- A run, by its calls: what it has read and written so far, what is left of what it has read, and the collector. The heading comes
-- first. What is read stands behind what is left. Lines are answered in whatever room. Where no line is left, as much is kept of the
-- unfinished one as tells.
pub data Reached : List ℕ → List ℕ → List ℕ → Collector → Type 0 where
  begun : Reached [] heading [] fresh_stored
  read : {input text rest : List ℕ} {c : Collector} → Reached input text rest c → (piece : List ℕ) → Reached (input ++ piece) text (rest ++ piece) c
  fed : {input text rest : List ℕ} {c : Collector} → Reached input text rest c → (room : ℕ)
      → Reached input (text ++ answers_from c (fitting room c (ended_lines rest))) (drop (length (joined (fitting room c (ended_lines rest)))) rest) (collector_from c (fitting room c (ended_lines rest)))
  kept : {input text rest : List ℕ} {c : Collector} → Reached input text rest c → Line rest → Reached input text (take limit rest) c
