-- Laws of sequences of records: what is accepted, that it is read one way, and where the rest is refused.
use mathlib.Core.Logic.{◌↔◌}
use mathlib.Core.Path.{◌≡◌, refl, sym, ◌∙◌, ap}
use mathlib.Core.Bool.{Bool, true, false}
use mathlib.Core.List.{List, [], ◌∷◌, ◌++◌, map, append-nil}
use Prim.Native.Nat.{ℕ, zero, suc, ◌+◌, ◌≤◌, ◌<◌}
use native.Mathlib.Omega.{arith}
use borrow.Author.Tests.{ne_eqb, lt-ltb, le-ltb, ltb-false}
use lib.Dec.{ltb}
use lib.ListN.{length, drop, length-drop, drop_of_length-le}
use Rattle.std.specs.Prelude.{if◌then◌else◌}
use Rattle.base.specs.Field.{Bytes}
use Rattle.base.specs.Outcome.{Outcome, accepted, refused, is_accepted, ◌>>=◌}
use Rattle.base.proofs.Outcome.{Only, apart, no_form, steps}
use Rattle.tagged.specs.Format.{Reading, Sequence, Suite, algorithm_bytes, all_fit, confidentiality_tag, fits, integrity_tag, owner_fits, sequence_bytes, start_bytes, suite_bytes, suites_fit, tagged}
use Rattle.tagged.specs.TaggedRecords.{record_at, records_from, records_of, run, all_written, suite_in, suite_written, suites_in}
use Rattle.tagged.specs.declared.tagged_records.Owner.{Owner}
use Rattle.tagged.specs.declared.tagged_records.Owner.TheVariants.{Standard, Vendor}
use Rattle.tagged.specs.declared.tagged_records.TaggedRecord.{TaggedRecord}
use Rattle.tagged.proofs.tagged_records.Format.{both_true, fit_head, record_back, record_is, run_none}

-- no algorithm byte begins a record
pub begins : (t : ℕ) → t < 3 → (suites : List Suite) → run t (sequence_bytes suites) ≡ 0
begins t h [] = refl
begins t h (s ∷ suites) = go s.owner
  where
    go : (o : Owner) → run t ((start_bytes o s.number ++ algorithm_bytes s.authentication s.integrity s.confidentiality) ++ sequence_bytes suites) ≡ 0
    go Standard = rw (ne_eqb 3 t (λ e. omega arith))
    go (Vendor v) = rw (ne_eqb 3 t (λ e. omega arith))

-- nor goes on behind confidentiality bytes
pub integrity_stops : (c rest : List ℕ) → all_fit c ≡ true → run integrity_tag rest ≡ 0 → run integrity_tag (map (tagged confidentiality_tag) c ++ rest) ≡ 0
integrity_stops [] rest f e = e
integrity_stops (n ∷ c) rest f e = run_none integrity_tag (omega arith) confidentiality_tag n (map (tagged confidentiality_tag) c ++ rest) (omega arith) (fit_head n c f).0 (λ e. omega arith)

pub confidentiality_fits : (s : Suite) → fits s ≡ true → all_fit s.confidentiality ≡ true
confidentiality_fits s f = let (p, q) = both_true (owner_fits s.owner) _ f in let (r, t) = both_true (ltb s.authentication 64) _ q in (both_true (all_fit s.integrity) _ t).1

-- a record has bytes
pub some_bytes : (s : Suite) (rest : List ℕ) → 3 ≤ length (suite_bytes s ++ rest)
some_bytes s rest = go s.owner
  where
    go : (o : Owner) → 3 ≤ length ((start_bytes o s.number ++ algorithm_bytes s.authentication s.integrity s.confidentiality) ++ rest)
    go Standard = omega arith
    go (Vendor v) = omega arith

module _ (list : List ℕ) where
  -- Accepted bytes are the records' bytes ..
  sequence_is : Bytes list → (k p : ℕ) (records : List TaggedRecord) → length list ≤ p + k → records_from k list p ≡ accepted records
      → (suites_fit (suites_in list records) ≡ true) × (drop p list ≡ sequence_bytes (suites_in list records))
  unfolding records_from
  sequence_is b zero p records l e =
      let z : [] ≡ records = cc in
      rw (← z) (refl, drop_of_length-le list {i = p} (omega arith))
  sequence_is b (suc k) p records l e = go (ltb p (length list)) refl e
      (λ q rs h f. sequence_is b k q rs h f)
    where
      go : (x : Bool) → ltb p (length list) ≡ x
          → (if x then (record_at list p >>= λ r. records_from k list r.end >>= λ rs. accepted (r ∷ rs)) else accepted []) ≡ accepted records
          → ((q : ℕ) (rs : List TaggedRecord) → length list ≤ q + k → records_from k list q ≡ accepted rs → (suites_fit (suites_in list rs) ≡ true) × (drop q list ≡ sequence_bytes (suites_in list rs)))
          → (suites_fit (suites_in list records) ≡ true) × (drop p list ≡ sequence_bytes (suites_in list records))
      go false q e more = let z : [] ≡ records = cc in rw (← z) (refl, drop_of_length-le list (ltb-false _ _ q))
      go true q e more =
          let (r, f, e1) = steps (record_at list p) _ e in
          let (rs, g, e2) = steps (records_from k list r.end) _ e1 in
          let is = record_is list b p r f in
          let h = is.longer in
          let (fit, rest) = more r.end rs (omega arith) g in
          let z : r ∷ rs ≡ records = cc in
          rw (← z) (rw is.fit fit, is.bytes ∙ ap (λ (x : List ℕ). suite_bytes (suite_in list r) ++ x) rest)

  -- .. and the bytes of records are accepted as these.
  sequence_back : (k p : ℕ) (suites : List Suite) → length list ≤ p + k → suites_fit suites ≡ true → drop p list ≡ sequence_bytes suites
      → (records : List TaggedRecord) × (records_from k list p ≡ accepted records) × (suites_in list records ≡ suites)
  unfolding records_from
  sequence_back zero p [] l f e = ([], refl, refl)
  sequence_back (suc k) p [] l f e =
      let n = ap length e in
      let d = length-drop p list in
      ([], rw (le-ltb p (length list) (omega arith)), refl)
  sequence_back zero p (s ∷ suites) l f e = let n = ap length e in let d = length-drop p list in let m = some_bytes s (sequence_bytes suites) in absurd (omega arith)
  sequence_back (suc k) p (s ∷ suites) l f e =
      let (here, later) = both_true (fits s) (suites_fit suites) f in
      let (r, back) = record_back list p s (sequence_bytes suites) e here (begins confidentiality_tag (omega arith) suites) (integrity_stops s.confidentiality (sequence_bytes suites) (confidentiality_fits s here) (begins integrity_tag (omega arith) suites)) in
      let h = back.longer in
      let (rs, g, z) = sequence_back k r.end suites (omega arith) later back.ends in
      let n = ap length e in
      let d = length-drop p list in
      let m = some_bytes s (sequence_bytes suites) in
      (r ∷ rs, rw (lt-ltb p (length list) (omega arith), back.reads, g), rw (back.says, z))

-- "Exactly the sequences of such records are accepted, each read one way."

module _ (list : List ℕ) where
  -- what is accepted is a reading of the bytes,
  pub accepted_reads : Bytes list → (records : List TaggedRecord) → records_of list ≡ accepted records → Reading list (suites_in list records)
  accepted_reads b records e = sequence_is list b (length list) 0 records (omega arith) e

  -- every reading is accepted,
  pub reading_accepted : (suites : List Suite) → Reading list suites → (records : List TaggedRecord) × (records_of list ≡ accepted records) × (suites_in list records ≡ suites)
  reading_accepted suites reading = sequence_back list (length list) 0 suites (omega arith) reading.0 reading.1

  -- there is at most one,
  pub one_reading : (a b : List Suite) → Reading list a → Reading list b → a ≡ b
  one_reading a b p q =
      let (rs, e, f) = reading_accepted a p in
      let (ts, g, h) = reading_accepted b q in
      let z : rs ≡ ts = same (sym e ∙ g) in
      sym f ∙ ap (suites_in list) z ∙ h
    where
      same : {x y : List TaggedRecord} → accepted x ≡ accepted y → x ≡ y
      same e = cc

  -- and so the sequences are accepted, exactly they.
  pub sequence_iff : Bytes list → is_accepted (records_of list) ≡ true ↔ Sequence list
  sequence_iff b = (λ e. go (records_of list) refl e, λ s. rw (reading_accepted s.0 s.1).1)
    where
      go : (x : Outcome (List TaggedRecord)) → records_of list ≡ x → is_accepted x ≡ true → Sequence list
      go (accepted rs) e t = (suites_in list rs, accepted_reads b rs e)
      go (refused n v) e t = let z : ◌≡◌ {A = ℕ} 0 1 = cc in absurd (omega arith)

-- "A writer gives back the bytes", and what is written is read as it was.

suite_written_lem : (s : Suite) → fits s ≡ true → suite_written s ≡ accepted (suite_bytes s)
suite_written_lem s f = rw f

written_is : (suites : List Suite) → suites_fit suites ≡ true → all_written suites ≡ accepted (sequence_bytes suites)
written_is [] f = refl
written_is (s ∷ suites) f = let (p, q) = both_true (fits s) (suites_fit suites) f in rw (p, written_is suites q)

only_fitting : (s : Suite) (bytes : List ℕ) → suite_written s ≡ accepted bytes → (fits s ≡ true) × (bytes ≡ suite_bytes s)
only_fitting s bytes e = go (fits s) refl e
  where
    go : (x : Bool) → fits s ≡ x → (if x then accepted (suite_bytes s) else refused 9 []) ≡ accepted bytes → (fits s ≡ true) × (bytes ≡ suite_bytes s)
    go true f e = (f, cc)
    go false f e = absurd (apart e)

pub written_reading : (suites : List Suite) (bytes : List ℕ) → all_written suites ≡ accepted bytes → Reading bytes suites
written_reading [] bytes e = (refl, cc)
written_reading (s ∷ suites) bytes e =
    let (x, f, e1) = steps (suite_written s) _ e in
    let (y, g, e2) = steps (all_written suites) _ e1 in
    let (h, i) = only_fitting s x f in
    let (j, k) = written_reading suites y g in
    let z : x ++ y ≡ bytes = cc in
    (rw h j, sym z ∙ (ap (λ (t : List ℕ). t ++ y) i ∙ ap (λ (t : List ℕ). suite_bytes s ++ t) k))

pub read_written : (list : List ℕ) → Bytes list → (records : List TaggedRecord) → records_of list ≡ accepted records → all_written (suites_in list records) ≡ accepted list
read_written list b records e = let (f, g) = accepted_reads list b records e in rw (written_is (suites_in list records) f) (ap accepted (sym g))

pub written_read : (suites : List Suite) (bytes : List ℕ) → all_written suites ≡ accepted bytes → (records : List TaggedRecord) × (records_of bytes ≡ accepted records) × (suites_in bytes records ≡ suites)
written_read suites bytes e = reading_accepted bytes suites (written_reading suites bytes e)

-- Refusal 9: no bytes are read as the record, exactly then.
pub suite_no_form : (s : Suite) → suite_written s ≡ refused 9 [] ↔ ((bytes : List ℕ) → Reading bytes (s ∷ []) → ⊥)
suite_no_form s = no_form (suite_written s) (λ bytes. Reading bytes (s ∷ [])) (only (fits s)) back given
  where
    only : (x : Bool) → Only 9 (if x then accepted (suite_bytes s) else refused 9 [])
    only true = refl
    only false = refl

    back : (bytes : List ℕ) → suite_written s ≡ accepted bytes → Reading bytes (s ∷ [])
    back bytes e = let (f, g) = only_fitting s bytes e in (rw f, g ∙ sym (append-nil (suite_bytes s)))

    given : (bytes : List ℕ) → Reading bytes (s ∷ []) → (t : List ℕ) × (suite_written s ≡ accepted t)
    given bytes r = (suite_bytes s, suite_written_lem s (both_true (fits s) true r.0).0)
