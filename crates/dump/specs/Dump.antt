-- chandump but for reading and writing. Document 01, "chandump".
use Rattle.std.specs.Prelude.{ℕ, List, [], ◌∷◌, ◌≡◌, length, drop, if◌then◌else◌, nat_eq}
use Rattle.std.specs.List.{starts_with}
use Rattle.auth.specs.GetChannelAuthenticationCapabilities.{best_auth, capabilities_of}
use Rattle.base.specs.Choice.{◌<?◌, ◌=?◌}
use Rattle.base.specs.Field.{byte}
use Rattle.base.specs.Outcome.{Outcome, accepted, refused}
use Rattle.base.specs.Text.{ascii}
use Rattle.base.specs.Written.{Writes}
use Rattle.access.specs.GetChannelAccess.{access_of}
use Rattle.collector.specs.Stored.{fresh_stored, list_stored, taking_stored}
use Rattle.collector.specs.declared.Collector.{Collector}
use Rattle.info.specs.GetChannelInfo.{info_of}
use Rattle.lines.specs.Lines.{pairs_of}
use Rattle.suites.specs.GetChannelCipherSuites.{numbers_of}
use Rattle.texts.specs.Texts.{access_text, auth_text, block_text, info_text, missing_text, refused_text, suites_text}
use Rattle.dump.specs.declared.Answered.{Answered}
use Rattle.dump.specs.declared.Kind.{Kind}
use Rattle.dump.specs.declared.Kind.TheVariants.{Info, Access, Auth, Block, Suites, Missing, Refused}
use Rattle.dump.specs.declared.Word.{Word}
use Rattle.dump.specs.declared.Word.TheVariants.{Inf, Acc, Cap, Sui, End, Other}

-- a line that answers a line, without its newline
pub record Said : Type 0 where
  pub kind : Kind
  pub text : List ℕ

-- and the collector behind it
pub record Answer : Type 0 where
  pub said : Said
  pub collector : Collector

-- "a line above 256 bytes without its newline"
abbrev pub longest : ℕ
longest = 256

-- "a three-letter word"
abbrev pub letters : ℕ
letters = 3

-- the five words; any other is none of them
unfoldable pub word_of : List ℕ → Word
word_of line =
    if starts_with nat_eq line (ascii "inf") then Inf else
    if starts_with nat_eq line (ascii "acc") then Acc else
    if starts_with nat_eq line (ascii "cap") then Cap else
    if starts_with nat_eq line (ascii "sui") then Sui else
    if starts_with nat_eq line (ascii "end") then End else Other

-- "Refusals print `refused N`"
abbrev pub refusing : ℕ → Said
refusing number = record { kind = Refused; text = refused_text number }

-- what is read is shown
abbrev pub shown : {A : Type 0} → Kind → (A → List ℕ) → Outcome A → Said
shown kind text (accepted a) = record { kind = kind; text = text a }
shown kind text (refused number carried) = refusing number

-- the collector stays
abbrev pub keeping : Collector → Said → Answer
keeping c said = record { said = said; collector = c }

-- "any other form gives 14"
abbrev pub bad_line : Collector → Answer
bad_line c = keeping c (refusing 14)

-- a part that the collector takes, or refuses
abbrev pub hearing : Collector → ℕ → List ℕ → Outcome Collector → Answer
hearing c index response (accepted taken) = record { said = record { kind = Block; text = block_text index (length response) }; collector = taken }
hearing c index response (refused number carried) = keeping c (refusing number)

-- `sui`: "an index, then a response"
abbrev pub heard : Collector → ℕ → List ℕ → Answer
heard c index response = hearing c index response (taking_stored c index response)

-- "an incomplete `end` prints `missing N`"
abbrev pub listed : Outcome (List ℕ) → Said
listed (accepted list) = record { kind = Suites; text = suites_text (numbers_of list) }
listed (refused number carried) = if number =? 13 then record { kind = Missing; text = missing_text (byte 0 carried) } else refusing number

-- "lists suites and starts a fresh collector", also where the list is not complete
abbrev pub ending : Collector → Answer
ending c = record { said = listed (list_stored c); collector = fresh_stored }

-- "`inf`, `acc`, `cap` take a response; `sui` an index, then a response; `end` alone lists suites and starts a fresh collector"
abbrev pub saying : Collector → Word → List ℕ → Answer
saying c Inf response = keeping c (shown Info info_text (info_of response))
saying c Acc response = keeping c (shown Access access_text (access_of response))
saying c Cap response = keeping c (shown Auth (λ capabilities. auth_text (best_auth capabilities)) (capabilities_of response))
saying c Sui [] = bad_line c
saying c Sui (index ∷ response) = heard c index response
saying c End [] = ending c
saying c End (first ∷ bytes) = bad_line c
saying c Other bytes = bad_line c

-- what stands behind the word is hex pairs, or the line has another form
abbrev pub reading : Collector → Word → Outcome (List ℕ) → Answer
reading c word (accepted bytes) = saying c word bytes
reading c word (refused number carried) = bad_line c

-- "A line is a three-letter word, then hex pairs of either case, one space before each"
unfoldable pub answering : Collector → List ℕ → Answer
answering c line = if longest <? length line then bad_line c else reading c (word_of line) (pairs_of (drop letters line))

-- The promise of what writes an answering line: its kind, and its text in the lent buffer.
pub record Says (said : Said) (r : Answered) (before after : List ℕ) : Type 0 where
  pub tells : r.kind ≡ said.kind
  pub writes : Writes (accepted said.text) r.written before after

-- The promise of dump: also the collector behind it; 11 where the text has no room, and then nothing changes.
pub record Answers (answer : Answer) (r : Answered) (before after : List ℕ) (collector left : Collector) : Type 0 where
  pub says : Says answer.said r before after
  pub leaves : left ≡ (if length before <? length answer.said.text then collector else answer.collector)
