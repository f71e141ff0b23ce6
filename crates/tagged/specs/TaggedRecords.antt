-- Reading and writing records with their tags. Document 02, C-14. A place is counted from the front of the lent list.
use Rattle.std.specs.Prelude.{Option, None, Some, ℕ, zero, suc, ◌+◌, List, [], ◌∷◌, ◌++◌, map, length, take, drop, if◌then◌else◌}
use Rattle.std.proofs.Math.Seq.{slice}
use Rattle.base.specs.Choice.{◌<?◌, ◌=?◌}
use Rattle.base.specs.Field.{bits, byte}
use Rattle.base.specs.Little.{little, little_bytes}
use Rattle.base.specs.Outcome.{Outcome, accepted, refused, ◌>>=◌}
use Rattle.tagged.specs.Format.{Suite, authentication_tag, confidentiality_tag, fits, integrity_tag, number_bits, own_start, standard_start, suite_bytes, tagged, vendor_bytes}
use Rattle.tagged.specs.declared.tagged_records.Owner.{Owner}
use Rattle.tagged.specs.declared.tagged_records.Owner.TheVariants.{Standard, Vendor}
use Rattle.tagged.specs.declared.tagged_records.TaggedRecord.{TaggedRecord}

-- "16 BadRecord with the place"
abbrev pub bad_record : {A : Type 0} → ℕ → Outcome A
bad_record place = refused 16 (place ∷ [])

-- A record.

-- the number in an algorithm byte
abbrev pub number_in : ℕ → ℕ
number_in b = bits 0 number_bits b

-- its "top bits"
abbrev pub tag_in : ℕ → ℕ
tag_in b = bits number_bits 2 b

-- how many bytes at the front have a tag
abbrev pub run : ℕ → List ℕ → ℕ
run tag [] = 0
run tag (b ∷ bytes) = if tag_in b =? tag then suc (run tag bytes) else 0

-- where the bytes with a tag end that begin at a place
abbrev pub reach : ℕ → List ℕ → ℕ → ℕ
reach tag list at = at + run tag (drop at list)

-- whose suite a record is by its first byte, "C0h .. or C1h"; none: no record begins so. The vendor number is "three-byte .., low first"
abbrev pub owner_at : List ℕ → ℕ → Option Owner
owner_at list position =
    if byte position list =? standard_start then Some Standard else
    if byte position list =? own_start then Some (Vendor (little (byte (position + 2) list ∷ byte (position + 3) list ∷ byte (position + 4) list ∷ []))) else
    None

-- the bytes before the authentication byte: the first, the number, a vendor's three
abbrev pub start_length : Owner → ℕ
start_length Standard = 2
start_length (Vendor vendor) = 2 + vendor_bytes

-- the record whose authentication byte stands at a place: its integrity bytes begin behind that, its confidentiality bytes behind these
abbrev pub record_with : List ℕ → Owner → ℕ → ℕ → TaggedRecord
record_with list owner number at =
    record {
      owner = owner;
      number = number;
      authentication = number_in (byte at list);
      integrity = at + 1;
      confidentiality = reach integrity_tag list (at + 1);
      end = reach confidentiality_tag list (reach integrity_tag list (at + 1));
    }

-- "one authentication byte with top bits 00"; the place is "the length if only the end is missing"
abbrev pub body_at : List ℕ → Owner → ℕ → ℕ → Outcome TaggedRecord
body_at list owner number at =
    if at <? length list then
    (if tag_in (byte at list) =? authentication_tag then accepted (record_with list owner number at) else bad_record at) else
    bad_record (length list)

-- any number and any vendor number will do
abbrev pub start_at : List ℕ → ℕ → Option Owner → Outcome TaggedRecord
start_at list position None = bad_record position
start_at list position (Some owner) = body_at list owner (byte (position + 1) list) (position + start_length owner)

-- the record that begins at a position
abbrev pub record_at : List ℕ → ℕ → Outcome TaggedRecord
record_at list position = start_at list position (owner_at list position)

-- where a record ends
abbrev pub end_of : Outcome TaggedRecord → Outcome ℕ
end_of o = do
  r ← o
  accepted r.end

-- a step: the record at a position, none at the end or past it
abbrev pub strict_step_at : List ℕ → ℕ → Outcome (Option TaggedRecord)
strict_step_at list position = if position <? length list then (do
  r ← record_at list position
  accepted (Some r)) else
    accepted None

-- A sequence.

-- at most k records, each from where the one before it ended
unfoldable pub records_from : ℕ → List ℕ → ℕ → Outcome (List TaggedRecord)
records_from zero list position = accepted []
records_from (suc k) list position = if position <? length list then (do
  r ← record_at list position
  records ← records_from k list r.end
  accepted (r ∷ records)) else
    accepted []

-- the records of a byte string: there are no more of them than bytes
abbrev pub records_of : List ℕ → Outcome (List TaggedRecord)
records_of list = records_from (length list) list 0

-- how many they are
abbrev pub count_of : List ℕ → Outcome ℕ
count_of list = do
  records ← records_of list
  accepted (length records)

-- "the strict list of suite numbers": of all records, in order
abbrev pub strict_numbers_of : List ℕ → Outcome (List ℕ)
strict_numbers_of list = do
  records ← records_of list
  accepted (map (λ (r : TaggedRecord). r.number) records)

-- tells a vendor's own suite from a standard one: 0 and zeros, or 1 and the vendor number in three bytes, low first
abbrev pub owner_bytes : Owner → List ℕ
owner_bytes Standard = 0 ∷ little_bytes vendor_bytes 0
owner_bytes (Vendor vendor) = 1 ∷ little_bytes vendor_bytes vendor

-- a suite in the listing: its number, and whose it is
abbrev pub entry : TaggedRecord → List ℕ
entry r = r.number ∷ owner_bytes r.owner

-- an entry's bytes: the number, the owner, the vendor number
abbrev pub entry_length : ℕ
entry_length = 2 + vendor_bytes

-- the first so many bytes of each record's entry, one behind the other
abbrev pub entries : ℕ → List TaggedRecord → List ℕ
entries width [] = []
entries width (r ∷ records) = take width (entry r) ++ entries width records

-- the same of a byte string's records
abbrev pub entries_of : ℕ → List ℕ → Outcome (List ℕ)
entries_of width list = do
  records ← records_of list
  accepted (entries width records)

-- the listing: the whole entries
abbrev pub listing_of : List ℕ → Outcome (List ℕ)
listing_of list = entries_of entry_length list

-- What a record that was read says.

-- the numbers of algorithm bytes
abbrev pub numbers_in : List ℕ → List ℕ
numbers_in bytes = map number_in bytes

-- a record of a list with the numbers that lie at its places
abbrev pub suite_in : List ℕ → TaggedRecord → Suite
suite_in list r =
    record {
      owner = r.owner;
      number = r.number;
      authentication = r.authentication;
      integrity = numbers_in (slice r.integrity r.confidentiality list);
      confidentiality = numbers_in (slice r.confidentiality r.end list);
    }

-- the same of all records of a list
abbrev pub suites_in : List ℕ → List TaggedRecord → List Suite
suites_in list records = map (suite_in list) records

-- Writing.

-- a record of its parts
abbrev pub suite_from : Owner → ℕ → ℕ → List ℕ → List ℕ → Suite
suite_from owner number authentication integrity confidentiality =
    record { owner = owner; number = number; authentication = authentication; integrity = integrity; confidentiality = confidentiality }

-- the numbers of algorithm bytes, or numbers, each under a tag
abbrev pub retagged : ℕ → List ℕ → List ℕ
retagged tag bytes = map (λ (b : ℕ). tagged tag (number_in b)) bytes

-- 9 for a number above six bits or a vendor number above three bytes: "a writer is given a record that no response reader gives"
abbrev pub suite_written : Suite → Outcome (List ℕ)
suite_written s = if fits s then accepted (suite_bytes s) else refused 9 []

-- records written one behind the other
abbrev pub all_written : List Suite → Outcome (List ℕ)
all_written [] = accepted []
all_written (s ∷ suites) = do
  bytes ← suite_written s
  following ← all_written suites
  accepted (bytes ++ following)
