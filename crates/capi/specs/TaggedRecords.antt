-- Cipher suite records with their tags, from C: document 02, C-14. include/ghjalvestru.h has the layout of a record that was read.
use Rattle.std.specs.Prelude.{ℕ, List, [], ◌∷◌, ◌++◌, if◌then◌else◌, Option, Some, None}
use Rattle.base.specs.Choice.{◌=?◌}
use Rattle.base.specs.Little.{little_bytes}
use Rattle.base.specs.Outcome.{Outcome, accepted, refused, ◌>>=◌}
use Rattle.tagged.specs.TaggedRecords.{entry, strict_step_at, suite_from, suite_written}
use Rattle.tagged.specs.declared.tagged_records.Owner.{Owner}
use Rattle.tagged.specs.declared.tagged_records.Owner.TheVariants.{Standard, Vendor}
use Rattle.tagged.specs.declared.tagged_records.TaggedRecord.{TaggedRecord}

-- its entry in the listing and its authentication; two zeros; its three places, eight bytes each, low first
abbrev pub record_bytes : TaggedRecord → List ℕ
record_bytes r = (entry r ++ (r.authentication ∷ 0 ∷ 0 ∷ [])) ++ (little_bytes 8 r.integrity ++ (little_bytes 8 r.confidentiality ++ little_bytes 8 r.end))

-- at the end there is nothing
abbrev pub step_bytes : Option TaggedRecord → List ℕ
step_bytes (Some r) = record_bytes r
step_bytes None = []

-- a step of the reading
abbrev pub step_record : List ℕ → ℕ → Outcome (List ℕ)
step_record list position = do
  step ← strict_step_at list position
  accepted (step_bytes step)

-- 0 is the standard's, which has no vendor number; 1 a vendor's own; 9 for any other
abbrev pub owner_for : ℕ → ℕ → Outcome Owner
owner_for kind vendor =
    if kind =? 0 then (if vendor =? 0 then accepted Standard else refused 9 []) else
    if kind =? 1 then accepted (Vendor vendor) else
    refused 9 []

-- a record's bytes, whose suite it is given as two numbers
abbrev pub record_written : ℕ → ℕ → ℕ → ℕ → List ℕ → List ℕ → Outcome (List ℕ)
record_written kind vendor number authentication integrity confidentiality = do
  owner ← owner_for kind vendor
  suite_written (suite_from owner number authentication integrity confidentiality)
