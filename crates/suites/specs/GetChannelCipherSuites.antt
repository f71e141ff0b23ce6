-- Get Channel Cipher Suites. Document 01, "Suites"; IPMI 2.0, Table 22-17.
use Rattle.std.specs.Prelude.{ℕ, zero, suc, ◌+◌, bit_or, bit_xor, Bool, true, false, ◌&&◌, List, [], ◌∷◌, map, length, take, drop, if◌then◌else◌, Option, Some, None}
use Rattle.std.specs.List.{list_all}
use Rattle.auth.specs.Algorithms as Algorithms
use Rattle.auth.specs.declared.algorithms.AuthenticationAlgorithm.{AuthenticationAlgorithm}
use Rattle.auth.specs.declared.algorithms.ConfidentialityAlgorithm.{ConfidentialityAlgorithm}
use Rattle.auth.specs.declared.algorithms.IntegrityAlgorithm.{IntegrityAlgorithm}
use Rattle.base.specs.Choice.{◌<?◌, ◌=?◌}
use Rattle.base.specs.Connection.{channel_of, channel_field}
use Rattle.base.specs.Field.{Array, byte, within}
use Rattle.base.specs.Named.{named}
use Rattle.base.specs.Outcome.{Outcome, accepted, refused, ◌>>=◌}
use Rattle.base.specs.Request.{request}
use Rattle.base.specs.Written.{padded}
use Rattle.base.specs.declared.connection.Channel.{Channel}
use Rattle.collector.specs.Collector.{last_index, part_length}
use Rattle.suites.specs.declared.get_channel_cipher_suites.ChannelCipherSuites.{ChannelCipherSuites}
use Rattle.suites.specs.declared.get_channel_cipher_suites.CipherSuite.{CipherSuite}
use Rattle.suites.specs.declared.get_channel_cipher_suites.ListCommand.{ListCommand}
use Rattle.suites.specs.declared.get_channel_cipher_suites.Iter.{Iter}
use Rattle.suites.specs.declared.get_channel_cipher_suites.Row.{Row}
use Rattle.suites.specs.declared.get_channel_cipher_suites.Step.{Step}

-- The request: the channel, payload type 0, and the index below a bit: 0 in the crate's, bit 7 in the one by suite (document 02, C-12).

-- a command holds its channel and its index
abbrev pub command : (bit : ℕ) → Channel → ℕ → ListCommand bit
command bit channel index = record { channel = channel; list_index = index }

-- 7 for a "list index above 0x3F"
abbrev pub command_on : (bit : ℕ) → Channel → ℕ → Outcome (ListCommand bit)
command_on bit channel index = if last_index <? index then refused 7 [] else accepted (command bit channel index)

-- made for a channel that is given as a number: "6, then 7"
abbrev pub command_for : (bit : ℕ) → ℕ → ℕ → Outcome (ListCommand bit)
command_for bit number index = do
  channel ← channel_of number
  command_on bit channel index

-- "request 54h, 3 bytes"; 9 for a channel that no number makes, or an index above 0x3F
abbrev pub command_bytes : (bit : ℕ) → ListCommand bit → Outcome (List ℕ)
command_bytes bit c = do
  channel ← channel_field c.channel
  index ← within 0 last_index c.list_index
  accepted (channel ∷ 0 ∷ bit_or bit index ∷ [])

-- the same, read: "a request reader turns every fault into 10"
abbrev pub command_of : (bit : ℕ) → List ℕ → Outcome (ListCommand bit)
command_of bit bytes = request 3 bytes (do
  channel ← channel_of (byte 0 bytes)
  payload ← within 0 0 (byte 1 bytes)
  command_on bit channel (bit_xor bit (byte 2 bytes)))

-- The response: a part of the list, as the Rust reads it.

-- the bytes, their number, and zeros up to sixteen
abbrev pub part : List ℕ → ChannelCipherSuites
part bytes = record { data_length = length bytes; record_data = padded part_length bytes }

-- what every part of the machine has
abbrev pub Typed : ChannelCipherSuites → Type 0
Typed s = Array part_length s.record_data

-- 2 for a "suite response above 16 bytes"
abbrev pub part_of : List ℕ → Outcome ChannelCipherSuites
part_of response = if part_length <? length response then refused 2 [] else accepted (part response)

-- every byte is zero
unfoldable pub zeros : List ℕ → Bool
zeros bytes = list_all (λ byte. byte =? 0) bytes

-- 9 for a length above a part's, or a byte beyond the length that is not zero
abbrev pub suites_bytes : ChannelCipherSuites → Outcome (List ℕ)
suites_bytes s =
    if part_length <? s.data_length then refused 9 [] else
    if zeros (drop s.data_length s.record_data) then accepted (take s.data_length s.record_data) else refused 9 []

-- The suites.

-- three algorithm numbers
abbrev pub row : ℕ → ℕ → ℕ → Row
row a i c = record { authentication = a; integrity = i; confidentiality = c }

-- the twenty suites from 0 up, "one digit each for authentication, integrity, confidentiality"
unfoldable pub suites : List Row
suites =
    row 0 0 0 ∷
    row 1 0 0 ∷
    row 1 1 0 ∷
    row 1 1 1 ∷
    row 1 1 2 ∷
    row 1 1 3 ∷
    row 2 0 0 ∷
    row 2 2 0 ∷
    row 2 2 1 ∷
    row 2 2 2 ∷
    row 2 2 3 ∷
    row 2 3 0 ∷
    row 2 3 1 ∷
    row 2 3 2 ∷
    row 2 3 3 ∷
    row 3 0 0 ∷
    row 3 4 0 ∷
    row 3 4 1 ∷
    row 3 4 2 ∷
    row 3 4 3 ∷
    []

-- "lookups by number": the row that stands at it
abbrev pub row_of : ℕ → Option Row
row_of n = named (map Some suites) n

-- a suite is its number
abbrev pub suite : ℕ → CipherSuite
suite n = record { 0 = n }

-- a number that a row stands at
abbrev pub suite_of : ℕ → Option CipherSuite
suite_of n = if n <? length suites then Some (suite n) else None

-- the three numbers are equal
abbrev pub same : Row → Row → Bool
same a b = (a.authentication =? b.authentication) && ((a.integrity =? b.integrity) && (a.confidentiality =? b.confidentiality))

-- the suite of the first row that is r, counted from n
abbrev pub find : List Row → ℕ → Row → Option CipherSuite
find [] n r = None
find (x ∷ rows) n r = if same x r then Some (suite n) else find rows (suc n) r

-- "lookups .. by triple"
abbrev pub suite_for : Row → Option CipherSuite
suite_for r = find suites 0 r

-- what a column of the suite's row names
abbrev pub column : {A : Type 0} → (Row → Option A) → Option Row → Option A
column name None = None
column name (Some r) = name r

-- the first column
abbrev pub authentication_of : ℕ → Option AuthenticationAlgorithm
authentication_of n = column (λ r. Algorithms.authentication_of r.authentication) (row_of n)

-- the second column
abbrev pub integrity_of : ℕ → Option IntegrityAlgorithm
integrity_of n = column (λ r. Algorithms.integrity_of r.integrity) (row_of n)

-- "The port reads the third column"
abbrev pub confidentiality_of : ℕ → Option ConfidentialityAlgorithm
confidentiality_of n = column (λ r. Algorithms.confidentiality_of r.confidentiality) (row_of n)

-- Reading records. Document 01, "Reading records, one step at a time"; IPMI 2.0, Table 22-18.

-- the first byte of a standard suite's record
abbrev pub record_start : ℕ
record_start = 0xC0

-- the bytes behind a record's number, one for each algorithm
abbrev pub algorithms : ℕ
algorithms = 3

-- a step that gives nothing, where it ends, and whether the reading is then marked as failed
abbrev pub nothing : ℕ → Bool → Step
nothing position failed = record { answer = None; position = position; failed = failed }

-- a step that gives a suite, and where it ends
abbrev pub gives : CipherSuite → ℕ → Step
gives s position = record { answer = Some s; position = position; failed = false }

-- "above 19 gives nothing ..; else three more bytes are taken, their contents unused, and the suite is given, or nothing if one is missing"
abbrev pub step_suite : List ℕ → ℕ → Option CipherSuite → Step
step_suite list at None = nothing (at + 1) false
step_suite list at (Some s) = if at + algorithms <? length list then gives s (at + algorithms + 1) else nothing (length list) false

-- "it takes the number byte; missing .. gives nothing, and the reading is NOT marked as failed"
abbrev pub step_number : List ℕ → ℕ → Step
step_number list at = if at <? length list then step_suite list at (suite_of (byte at list)) else nothing at false

-- "A step takes one byte. None left (a position at or past the end): nothing. Not 0xC0: nothing, and every later step takes and gives nothing."
abbrev pub step_at : List ℕ → ℕ → Bool → Step
step_at list position failed =
    if failed then nothing position failed else
    if position <? length list then
    (if byte position list =? record_start then step_number list (position + 1) else nothing (position + 1) true) else
    nothing position failed

-- the step behind k others, each of which goes on where the one before it ended
unfoldable pub step_after : ℕ → List ℕ → ℕ → Bool → Step
step_after zero list position failed = step_at list position failed
step_after (suc k) list position failed = step_after k list (step_at list position failed).position (step_at list position failed).failed

-- a suite's number and those that follow; no suite, and nothing follows
abbrev pub before : Option CipherSuite → List ℕ → List ℕ
before (Some s) numbers = s.0 ∷ numbers
before None numbers = []

-- the suites that at most k steps give, up to the first step that gives nothing
unfoldable pub up_to : ℕ → List ℕ → ℕ → Bool → List ℕ
up_to zero list position failed = []
up_to (suc k) list position failed = before (step_at list position failed).answer (up_to k list (step_at list position failed).position (step_at list position failed).failed)

-- "The list of a byte string": there are no more steps that give a suite than bytes
abbrev pub numbers_of : List ℕ → List ℕ
numbers_of list = up_to (length list) list 0 false

-- the step of a reader that holds the list, and the reader behind it
abbrev pub step_of : Iter → Step
step_of reader = step_at reader.list.now reader.position reader.failed

-- it holds the same list, and goes on where the step ended
abbrev pub moved : Iter → Step → Iter
moved reader step = record { list = reader.list; position = step.position; failed = step.failed }
