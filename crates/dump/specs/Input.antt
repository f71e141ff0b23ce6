-- A whole input. Document 01: "After its heading it reads standard input by lines; .. a last line needs no newline".
use Rattle.std.specs.Prelude.{ℕ, List, [], ◌∷◌, ◌++◌, ◌≡◌, length, if◌then◌else◌}
use Rattle.base.specs.Choice.{◌=?◌}
use Rattle.base.specs.Text.{ascii}
use Rattle.collector.specs.Stored.{fresh_stored}
use Rattle.collector.specs.declared.Collector.{Collector}
use Rattle.lines.specs.Lines.{line_length, newline}
use Rattle.dump.specs.Dump.{answering}

-- an input that ends with a newline has no further, empty line
abbrev pub last_line : List ℕ → List (List ℕ)
last_line [] = []
last_line (byte ∷ held) = (byte ∷ held) ∷ []

-- the lines of an input, behind what is held of the first
unfoldable pub lines_from : List ℕ → List ℕ → List (List ℕ)
lines_from [] held = last_line held
lines_from (byte ∷ input) held = if byte =? newline then held ∷ lines_from input [] else lines_from input (held ++ (byte ∷ []))

-- the lines of a whole input
abbrev pub lines_of : List ℕ → List (List ℕ)
lines_of input = lines_from input []

-- the answer to a line, a newline behind it
abbrev pub answer_to : Collector → List ℕ → List ℕ
answer_to c line = (answering c line).said.text ++ (newline ∷ [])

-- the answers to lines
unfoldable pub answers_from : Collector → List (List ℕ) → List ℕ
answers_from c [] = []
answers_from c (line ∷ lines) = answer_to c line ++ answers_from (answering c line).collector lines

-- the collector behind lines
unfoldable pub collector_from : Collector → List (List ℕ) → Collector
collector_from c [] = c
collector_from c (line ∷ lines) = collector_from (answering c line).collector lines

-- the heading's line
abbrev pub heading : List ℕ
heading = ascii "chandump 1" ++ (newline ∷ [])

-- the heading, then the answers
unfoldable pub output_of : List ℕ → List ℕ
output_of input = heading ++ answers_from fresh_stored (lines_of input)

-- a line has no newline in it
abbrev pub Line : List ℕ → Type 0
Line line = line_length line ≡ length line

-- each is a line
abbrev pub Lines : List (List ℕ) → Type 0
Lines [] = Unit {0}
Lines (line ∷ lines) = Line line × Lines lines

-- lines, a newline behind each
abbrev pub joined : List (List ℕ) → List ℕ
joined [] = []
joined (line ∷ lines) = line ++ (newline ∷ joined lines)
