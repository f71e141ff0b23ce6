-- Document 02, C-14: "Where all records are standard, known and carry exactly one number of each kind, the strict list of suite numbers equals the old list."
use Prim.Native.Nat.{ℕ, zero, suc, ◌+◌, ◌≤◌}
use mathlib.Core.Bool.{false}
use mathlib.Core.List.{List, [], ◌∷◌, ◌++◌, map}
use Rattle.std.specs.Prelude.{Some}
use mathlib.Core.Path.{◌≡◌, refl, sym, ◌∙◌, ap}
use native.Mathlib.Omega.{arith}
use borrow.Author.Tests.{lt-ltb, le-ltb}
use lib.ListN.{length, drop, length-drop}
use lib.Seq.{drop-drop}
use Rattle.base.specs.Field.{byte}
use Rattle.base.specs.Outcome.{accepted}
use Rattle.suites.specs.GetChannelCipherSuites as Old
use Rattle.tagged.specs.Format.{Reading, Suite, sequence_bytes, suite_bytes, tagged}
use Rattle.tagged.specs.TaggedRecords.{bad_record, records_from, strict_numbers_of, suites_in}
use Rattle.tagged.specs.declared.tagged_records.Owner.TheVariants.{Standard}
use Rattle.tagged.specs.declared.tagged_records.TaggedRecord.{TaggedRecord}
use Rattle.tagged.proofs.tagged_records.Format.{at_place}
use Rattle.tagged.proofs.tagged_records.Sequences.{reading_accepted, some_bytes}

-- a standard suite that is known, with one number of each kind
pub record Plain (s : Suite) : Type 0 where
  pub standard : s.owner ≡ Standard
  pub known : Old.suite_of s.number ≡ Some (Old.suite s.number)
  pub integrity : length s.integrity ≡ 1
  pub confidentiality : length s.confidentiality ≡ 1

-- all of them are
abbrev pub AllPlain : List Suite → Type 0
AllPlain [] = Unit {0}
AllPlain (s ∷ suites) = Plain s × AllPlain suites

one : (l : List ℕ) → length l ≡ 1 → (x : ℕ) × (l ≡ x ∷ [])
one [] e = absurd (omega arith)
one (x ∷ []) e = (x, refl)
one (x ∷ y ∷ l) e = absurd (omega arith)

module _ (list : List ℕ) where
  -- the old step gives the suite, and ends at the next record
  step : (p : ℕ) (s : Suite) (rest : List ℕ) → Plain s → drop p list ≡ suite_bytes s ++ rest
      → (Old.step_at list p false ≡ Old.gives (Old.suite s.number) (p + 5)) × (drop (p + 5) list ≡ rest)
  step p s rest h e =
      let (i, ei) = one s.integrity h.integrity in
      let (c, ec) = one s.confidentiality h.confidentiality in
      let e5 : drop p list ≡ 0xC0 ∷ s.number ∷ tagged 0 s.authentication ∷ tagged 1 i ∷ tagged 2 c ∷ rest = rw (h.standard, ei, ec) at e in
      let d = length-drop p list in
      let l = ap length e5 in
      let zero : p + 0 ≡ p = omega arith in
      let first : byte p list ≡ 0xC0 = rw zero at (at_place list p 0 ∙ ap (byte 0) e5) in
      let second : byte (p + 1) list ≡ s.number = at_place list p 1 ∙ ap (byte 1) e5 in
      let end : p + 1 + 3 + 1 ≡ p + 5 = omega arith in (
        rw (lt-ltb p (length list) (omega arith), first, lt-ltb (p + 1) (length list) (omega arith), second, h.known, lt-ltb (p + 1 + 3) (length list) (omega arith), end),
        sym (drop-drop 5 p list) ∙ ap (drop 5) e5,
      )

  numbers : (records : List TaggedRecord) → map (λ (s : Suite). s.number) (suites_in list records) ≡ map (λ (r : TaggedRecord). r.number) records
  numbers [] = refl
  numbers (r ∷ records) = ap (λ (l : List ℕ). r.number ∷ l) (numbers records)

  old_list : (k p : ℕ) (suites : List Suite) → length list ≤ p + k → AllPlain suites → drop p list ≡ sequence_bytes suites
      → Old.up_to k list p false ≡ map (λ (s : Suite). s.number) suites
  unfolding Old.up_to
  old_list zero p [] l h e = refl
  old_list (suc k) p [] l h e =
      let d = length-drop p list in
      let z = ap length e in
      rw (le-ltb p (length list) (omega arith))
  old_list zero p (s ∷ suites) l h e = let d = length-drop p list in let z = ap length e in let n = some_bytes s (sequence_bytes suites) in absurd (omega arith)
  old_list (suc k) p (s ∷ suites) l h e =
      let (here, there) = step p s (sequence_bytes suites) h.0 e in
      rw here (ap (λ (l : List ℕ). s.number ∷ l) (old_list k (p + 5) suites (omega arith) h.1 there))

pub same_list : (list : List ℕ) (suites : List Suite) → Reading list suites → AllPlain suites → strict_numbers_of list ≡ accepted (Old.numbers_of list)
same_list list suites reading plain =
    let (records, e, f) = reading_accepted list suites reading in
    rw e (ap accepted (sym (numbers list records) ∙ ap (map (λ (s : Suite). s.number)) f ∙ sym (old_list list (length list) 0 suites (omega arith) plain reading.1)))

-- Refusal 16 and its place, and the shortest record, by example.
pub examples : (strict_numbers_of (0xC0 ∷ []) ≡ bad_record 1) × (strict_numbers_of (0xC0 ∷ 0x03 ∷ 0x41 ∷ []) ≡ bad_record 2) × (strict_numbers_of (0xC0 ∷ 0x03 ∷ 0x01 ∷ 0x00 ∷ []) ≡ bad_record 3)
    × (strict_numbers_of (0xC0 ∷ 0x03 ∷ 0x01 ∷ 0x81 ∷ 0x41 ∷ []) ≡ bad_record 4) × (strict_numbers_of (0xC0 ∷ 0x03 ∷ 0x01 ∷ []) ≡ accepted (3 ∷ [])) × (strict_numbers_of [] ≡ accepted [])
unfolding records_from
examples = (refl, refl, refl, refl, refl, refl)
