-- The format of cipher suite records. Document 02, C-14; IPMI 2.0, Table 22-18. It says what records are as bytes, and nothing of reading them.
use Rattle.std.specs.Prelude.{ℕ, ◌+◌, ◌*◌, ◌^◌, Bool, true, false, List, [], ◌∷◌, ◌++◌, map, ◌≡◌, if◌then◌else◌}
use Rattle.base.specs.Choice.{◌<?◌}
use Rattle.base.specs.Little.{little_bytes}
use Rattle.tagged.specs.declared.tagged_records.Owner.{Owner}
use Rattle.tagged.specs.declared.tagged_records.Owner.TheVariants.{Standard, Vendor}

-- "C0h and a suite number"
abbrev pub standard_start : ℕ
standard_start = 0xC0

-- "or C1h, a number and a .. vendor number"
abbrev pub own_start : ℕ
own_start = 0xC1

-- "a three-byte vendor number"
abbrev pub vendor_bytes : ℕ
vendor_bytes = 3

-- "one authentication byte with top bits 00"
abbrev pub authentication_tag : ℕ
authentication_tag = 0

-- "any integrity bytes with 01"
abbrev pub integrity_tag : ℕ
integrity_tag = 1

-- "any confidentiality bytes with 10"
abbrev pub confidentiality_tag : ℕ
confidentiality_tag = 2

-- the bits below the two top ones: an algorithm's number
abbrev pub number_bits : ℕ
number_bits = 6

-- an algorithm byte: its tag in the top bits, its number below
abbrev pub tagged : ℕ → ℕ → ℕ
tagged tag number = tag * 2 ^ number_bits + number

-- what a record says: whose suite it is, its number, and its algorithms' numbers
pub record Suite : Type 0 where
  pub owner : Owner
  pub number : ℕ
  pub authentication : ℕ
  pub integrity : List ℕ
  pub confidentiality : List ℕ

-- "C0h and a suite number, or C1h, a number and a three-byte vendor number, low first"
abbrev pub start_bytes : Owner → ℕ → List ℕ
start_bytes Standard number = standard_start ∷ number ∷ []
start_bytes (Vendor vendor) number = own_start ∷ number ∷ little_bytes vendor_bytes vendor

-- "then one authentication byte .., any integrity bytes .., any confidentiality bytes"
abbrev pub algorithm_bytes : ℕ → List ℕ → List ℕ → List ℕ
algorithm_bytes authentication integrity confidentiality =
    tagged authentication_tag authentication ∷ (map (tagged integrity_tag) integrity ++ map (tagged confidentiality_tag) confidentiality)

-- a record's bytes
abbrev pub suite_bytes : Suite → List ℕ
suite_bytes s = start_bytes s.owner s.number ++ algorithm_bytes s.authentication s.integrity s.confidentiality

-- records one behind the other
abbrev pub sequence_bytes : List Suite → List ℕ
sequence_bytes [] = []
sequence_bytes (s ∷ suites) = suite_bytes s ++ sequence_bytes suites

-- every number needs at most six bits
abbrev pub all_fit : List ℕ → Bool
all_fit [] = true
all_fit (n ∷ numbers) = if n <? 2 ^ number_bits then all_fit numbers else false

-- a vendor's number needs at most three bytes
abbrev pub owner_fits : Owner → Bool
owner_fits Standard = true
owner_fits (Vendor vendor) = vendor <? 256 ^ vendor_bytes

-- the format has room for the record's numbers
abbrev pub fits : Suite → Bool
fits s =
    if owner_fits s.owner then
    (if s.authentication <? 2 ^ number_bits then
    (if all_fit s.integrity then all_fit s.confidentiality else false) else false) else
    false

-- all of them fit
abbrev pub suites_fit : List Suite → Bool
suites_fit [] = true
suites_fit (s ∷ suites) = if fits s then suites_fit suites else false

-- "the sequences of such records": a byte string that some records are, and which they are. No record, and the bytes are empty.
abbrev pub Reading : List ℕ → List Suite → Type 0
Reading bytes suites = (suites_fit suites ≡ true) × (bytes ≡ sequence_bytes suites)

-- the bytes are a sequence of records
abbrev pub Sequence : List ℕ → Type 0
Sequence bytes = (suites : List Suite) × Reading bytes suites
