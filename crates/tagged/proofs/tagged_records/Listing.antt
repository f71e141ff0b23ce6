-- Laws of the listing: how long it is, and a turn of the loop that writes it.
use mathlib.Core.Path.{◌≡◌, refl, sym, ◌∙◌, ap}
use mathlib.Core.List.{List, [], ◌∷◌, ◌++◌, append_assoc, append-nil, map}
use Rattle.std.specs.Prelude.{Ok, Err}
use Prim.Native.Nat.{ℕ, ◌+◌, ◌-◌, ◌*◌, ◌/◌, ◌≤◌, ◌<◌}
use native.Mathlib.Nat.{div-lt_iff_lt-mul, le-div_iff_mul-le, suc-mul, zero-mul}
use native.Mathlib.Omega.{arith}
use borrow.Rule.Slice.PartMut.{put_mid}
use lib.ListN.{length, drop, length-append, length-drop, take}
use lib.Seq.{length-take-le}
use Rattle.base.specs.Outcome.{Outcome, accepted, refused, ◌>>=◌}
use Rattle.base.specs.Refusal.{refusal}
use Rattle.base.specs.Written.{Writes}
use Rattle.base.specs.declared.refusal.Refusal.{Refusal}
use Rattle.base.specs.declared.refusal.Refusal.TheVariants.{NoRoom}
use Rattle.base.proofs.Outcome.{apart, steps}
use Rattle.base.proofs.written.Laws.{fitting, joined, lacking}
use Rattle.tagged.specs.TaggedRecords.{count_of, entries, entries_of, entry, entry_length, record_at, records_of, strict_numbers_of}
use Rattle.tagged.specs.declared.tagged_records.Owner.{Owner}
use Rattle.tagged.specs.declared.tagged_records.Owner.TheVariants.{Standard, Vendor}
use Rattle.tagged.specs.declared.tagged_records.TaggedRecord.{TaggedRecord}
use Rattle.tagged.proofs.tagged_records.Steps.{rest_all, rest_end, rest_read, rest_of}

entry_length_lem : (r : TaggedRecord) → length (entry r) ≡ entry_length
entry_length_lem r = go r.owner
  where
    go : (owner : Owner) → length (entry (record { owner = owner; number = r.number; authentication = r.authentication; integrity = r.integrity; confidentiality = r.confidentiality; end = r.end })) ≡ entry_length
    go Standard = refl
    go (Vendor v) = refl

module _ (width : ℕ) (w : width ≤ entry_length) where
  part_length_lem : (r : TaggedRecord) → length (take width (entry r)) ≡ width
  part_length_lem r = let e = entry_length_lem r in length-take-le width (entry r) (omega arith)

  entries_length : (records : List TaggedRecord) → length (entries width records) ≡ length records * width
  entries_length [] = sym (zero-mul width)
  entries_length (r ∷ records) =
      let e = part_length_lem r in
      let f = entries_length records in
      let g = suc-mul (length records) width in
      rw length-append (omega arith)

-- the first byte of each entry is its number
pub numbers_are : (list : List ℕ) → entries_of 1 list ≡ strict_numbers_of list
numbers_are list = go (records_of list)
  where
    same : (records : List TaggedRecord) → entries 1 records ≡ map (λ (r : TaggedRecord). r.number) records
    same [] = refl
    same (r ∷ records) = ap (λ (x : List ℕ). r.number ∷ x) (same records)

    go : (o : Outcome (List TaggedRecord)) → (o >>= λ records. accepted (entries 1 records)) ≡ (o >>= λ records. accepted (map (λ (r : TaggedRecord). r.number) records))
    go (accepted records) = ap accepted (same records)
    go (refused n v) = refl

-- a count that is refused refuses the listing
pub uncounted : (list : List ℕ) (width : ℕ) (r : Refusal) → count_of list ≡ refusal r → entries_of width list ≡ refusal r
uncounted list width r e = go (records_of list) e
  where
    go : (o : Outcome (List TaggedRecord)) → (o >>= λ records. accepted (length records)) ≡ refusal r → (o >>= λ records. accepted (entries width records)) ≡ refusal r
    go (accepted records) e = absurd (apart (sym e))
    go (refused n v) e = cc

-- a turn of the loop at a place: what is written already, and what is left to list
pub record Turn (list : List ℕ) (width : ℕ) (buffer out : List ℕ) (at end : ℕ) : Type 0 where
  pub done : List ℕ
  pub left : List TaggedRecord
  pub read : rest_of list at ≡ accepted left
  pub all : entries_of width list ≡ accepted (done ++ entries width left)
  pub room : length (done ++ entries width left) ≤ length buffer
  pub out_is : out ≡ done ++ drop (length done) buffer
  pub end_is : end ≡ length done
  pub same : length out ≡ length buffer
  pub within : end ≤ length buffer

-- the last two follow
turn : {list : List ℕ} {width : ℕ} {buffer out : List ℕ} {at end : ℕ} (done : List ℕ) (left : List TaggedRecord) → rest_of list at ≡ accepted left → entries_of width list ≡ accepted (done ++ entries width left)
    → length (done ++ entries width left) ≤ length buffer → out ≡ done ++ drop (length done) buffer → end ≡ length done → Turn list width buffer out at end
turn {width = width} {buffer = buffer} done left read all room out_is end_is =
    let e = length-append done (entries width left) in
    record {
      done = done;
      left = left;
      read = read;
      all = all;
      room = room;
      out_is = out_is;
      end_is = end_is;
      same = rw (out_is, length-append, length-drop) (omega arith);
      within = omega arith;
    }

-- by the count: all records, and the length of what is listed
module _ (list : List ℕ) (width : ℕ) (p : 0 < width) (w : width ≤ entry_length) {n : ℕ} (e : count_of list ≡ accepted n) (buffer : List ℕ) where
  abbrev Listed : Type 0
  Listed = (records : List TaggedRecord) × (records_of list ≡ accepted records) × (length (entries width records) ≡ n * width)

  listing : Listed
  listing = go (steps (records_of list) (λ records. accepted (length records)) e)
    where
      go : ((records : List TaggedRecord) × (records_of list ≡ accepted records) × (accepted (length records) ≡ accepted n)) → Listed
      go (records, f, g) = let z : length records ≡ n = cc in (records, f, rw (← z) (entries_length width w records))

  pub no_room : length buffer / width < n → Writes (entries_of width list) (Err NoRoom) buffer buffer
  no_room h = go listing
    where
      go : Listed → Writes (entries_of width list) (Err NoRoom) buffer buffer
      go (records, f, l) = let k = (div-lt_iff_lt-mul p).0 h in rw f (lacking (entries width records) buffer (omega arith))

  pub turn_first : n ≤ length buffer / width → Turn list width buffer buffer 0 0
  turn_first h = go listing
    where
      go : Listed → Turn list width buffer buffer 0 0
      go (records, f, l) =
          let k = (le-div_iff_mul-le p).0 h in
          turn [] records (rest_all list ∙ f) (rw f) (omega arith) refl refl

module _ {list : List ℕ} {width : ℕ} {buffer out : List ℕ} {at end : ℕ} (t : Turn list width buffer out at end) where
  -- at the list's end all is written
  pub turn_end : length list ≤ at → Writes (entries_of width list) (Ok end) buffer out
  turn_end h = go t.left (sym (rest_end list at h) ∙ t.read) t.all t.room
    where
      go : (left : List TaggedRecord) → accepted [] ≡ accepted left → entries_of width list ≡ accepted (t.done ++ entries width left) → length (t.done ++ entries width left) ≤ length buffer
          → Writes (entries_of width list) (Ok end) buffer out
      go [] e f l = rw (f, append-nil, t.out_is, t.end_is) (fitting t.done buffer (rw append-nil at l))
      go (r ∷ left) e f l = let z : ◌≡◌ {A = ℕ} 0 1 = cc in absurd (omega arith)

  module _ (h : at < length list) where
    -- no record is refused that was counted
    pub turn_reads : (r : Refusal) → record_at list at ≡ refusal r → ⊥
    turn_reads r e = apart (sym (rest_read list at h e) ∙ t.read)

    module _ (w : width ≤ entry_length) {r : TaggedRecord} (e : record_at list at ≡ accepted r) where
      -- what is read is the next to list
      abbrev Next : Type 0
      Next = (left : List TaggedRecord) × (rest_of list r.end ≡ accepted left) × (entries_of width list ≡ accepted (t.done ++ (take width (entry r) ++ entries width left)))
          × (length (t.done ++ (take width (entry r) ++ entries width left)) ≤ length buffer)

      next : Next
      next = go (steps (rest_of list r.end) (λ records. accepted (r ∷ records)) (sym (rest_read list at h e) ∙ t.read))
        where
          go : ((left : List TaggedRecord) × (rest_of list r.end ≡ accepted left) × (accepted (r ∷ left) ≡ accepted t.left)) → Next
          go (left, f, g) = let z : t.left ≡ r ∷ left = cc in (left, f, rw z at t.all, rw z at t.room)

      -- there is room for its entry
      pub turn_room : end + width ≤ length buffer
      turn_room =
          let m = part_length_lem width w r in
          let i = t.end_is in
          omega (arith, simp length-append at next.3)

      -- which is written behind the others
      pub turn_on : {bytes : List ℕ} → bytes ≡ take width (entry r) → Turn list width buffer (put_mid end (end + width - end) out bytes) r.end (end + width)
      turn_on {bytes} b =
          let (left, f, a, l) = next in
          let m = part_length_lem width w r in
          let i = t.end_is in
          let z : end + width ≡ length t.done + length (take width (entry r)) = omega arith in
          turn (t.done ++ take width (entry r)) left f (rw append_assoc a) (rw append_assoc l)
          (rw (b, z, i, t.out_is) (joined t.done (take width (entry r)) buffer)) (rw length-append (omega arith))
