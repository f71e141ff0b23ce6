-- Laws of the reading: where the bytes with a tag end; a record by cases; the records one behind the other.
use mathlib.Core.Path.{◌≡◌, refl, sym, ◌∙◌, ap}
use mathlib.Core.Bool.{Bool, true, false, cond, not}
use mathlib.Core.List.{List, [], ◌∷◌}
use Prim.Native.Nat.{ℕ, zero, suc, ◌+◌, ◌-◌, ◌/◌, ◌≤◌, ◌<◌}
use native.Mathlib.Nat.{zero-add}
use native.Mathlib.Numerals.{add-one}
use native.Mathlib.Omega.{arith}
use borrow.Author.Tests.{eq-eqb, eqb-false, eqb-true, le-ltb, lt-ltb, ltb-false, ltb-true, ne_eqb}
use lib.Dec.{eqb, ltb}
use lib.ListN.{length, get_or, drop, take, drop_of_length-le, length-drop}
use lib.Seq.{drop-cons, take_all}
use Rattle.std.specs.Prelude.{Option, None, Some, Result, Ok, Err, if◌then◌else◌}
use Rattle.std.specs.List.{position_or_len}
use Rattle.base.specs.Field.{Bytes, byte}
use Rattle.base.specs.Little.{little}
use Rattle.base.specs.Outcome.{Outcome, accepted, refused, ◌>>=◌}
use Rattle.base.specs.Refusal.{refusal, said}
use Rattle.base.specs.declared.refusal.Refusal.{Refusal}
use Rattle.base.proofs.Outcome.{apart, steps}
use Rattle.base.proofs.little.Laws.{bytes_back, bytes_drop}
use Rattle.tagged.specs.Format.{authentication_tag, confidentiality_tag, integrity_tag, own_start, standard_start}
use Rattle.tagged.specs.TaggedRecords.{bad_record, body_at, count_of, end_of, entry, number_in, owner_at, reach, record_at, record_with, records_from, records_of, run, start_at, start_length, strict_step_at, tag_in}
use Rattle.tagged.specs.declared.tagged_records.Owner.{Owner}
use Rattle.tagged.specs.declared.tagged_records.Owner.TheVariants.{Standard, Vendor}
use Rattle.tagged.specs.declared.tagged_records.TaggedRecord.{TaggedRecord}

-- the code's division; a byte has no bit above the two of the tag
pub tag_divided : (b : ℕ) → b < 256 → b / 64 ≡ tag_in b
tag_divided b h = omega arith

-- a number without a tag is the byte itself
pub number_plain : (b : ℕ) → b / 64 ≡ 0 → b ≡ number_in b
number_plain b h = omega arith

run_within : (tag : ℕ) (l : List ℕ) → run tag l ≤ length l
run_within tag [] = omega arith
run_within tag (b ∷ l) = go (eqb (tag_in b) tag) (run_within tag l)
  where
    go : (x : Bool) → run tag l ≤ length l → (if x then suc (run tag l) else 0) ≤ suc (length l)
    go true h = omega arith
    go false h = omega arith

module _ (tag : ℕ) (list : List ℕ) (i : ℕ) where
  pub reach_stop : i < length list → (tag_in (get_or list i 0) ≡ tag → ⊥) → reach tag list i ≡ i
  reach_stop h ne = rw (drop-cons list i 0 h, ne_eqb (tag_in (get_or list i 0)) tag ne) (omega arith)

  pub reach_on : i < length list → tag_in (get_or list i 0) ≡ tag → reach tag list i ≡ reach tag list (i + 1)
  reach_on h e = rw (drop-cons list i 0 h, eq-eqb (tag_in (get_or list i 0)) tag e, add-one) (omega arith)

  pub reach_end : length list ≤ i → reach tag list i ≡ i
  reach_end h = rw (drop_of_length-le list h) (omega arith)

  -- it ends where it begins or behind that, and in the list
  pub reach_within : i ≤ length list → (i ≤ reach tag list i) × (reach tag list i ≤ length list)
  reach_within h = let l = run_within tag (drop i list) in let e = length-drop i list in (omega arith, omega arith)

-- the code's test, and where it first holds
abbrev pub Other : ℕ → ℕ → Bool
Other tag b = if eqb (b / 64) tag then false else true

run_position : (tag : ℕ) (l : List ℕ) → Bytes l → position_or_len (Other tag) l ≡ run tag l
run_position tag [] h = refl
run_position tag (b ∷ l) h = go (b / 64) (tag_in b) (tag_divided b h.0) (run_position tag l h.1)
  where
    by : (x : Bool) → position_or_len (Other tag) l ≡ run tag l → cond (not (if x then false else true)) (1 + position_or_len (Other tag) l) 0 ≡ (if x then suc (run tag l) else 0)
    by true e = rw e (omega arith)
    by false e = refl

    go : (x y : ℕ) → x ≡ y → position_or_len (Other tag) l ≡ run tag l → cond (not (if eqb x tag then false else true)) (1 + position_or_len (Other tag) l) 0 ≡ (if eqb y tag then suc (run tag l) else 0)
    go x y e f = rw e (by (eqb y tag) f)

-- what a list has from a place on, as the machine lends it
abbrev pub lent_from : ℕ → List ℕ → List ℕ
lent_from at list = take (length list - at) (drop at list)

module _ (tag : ℕ) (list : List ℕ) (at : ℕ) (b : Bytes list) (h : at ≤ length list) {r : Option ℕ}
    (e : r ≡ (if ltb (position_or_len (Other tag) (lent_from at list)) (length (lent_from at list)) then Some (position_or_len (Other tag) (lent_from at list)) else None)) where
  where_run : r ≡ (if ltb (run tag (drop at list)) (length (drop at list)) then Some (run tag (drop at list)) else None)
  where_run =
      let z = run_position tag (drop at list) (bytes_drop at list b) in
      let d = length-drop at list in
      let w = take_all (length list - at) (drop at list) (omega arith) in
      e ∙ rw (w, z)

  pub reach_found : {n : ℕ} → r ≡ Some n → (at + n ≡ reach tag list at) × (at + n ≤ length list)
  reach_found {n} f = go (ltb (run tag (drop at list)) (length (drop at list))) refl where_run
    where
      go : (x : Bool) → ltb (run tag (drop at list)) (length (drop at list)) ≡ x → r ≡ (if x then Some (run tag (drop at list)) else None) → (at + n ≡ reach tag list at) × (at + n ≤ length list)
      go true l g =
          let d = length-drop at list in
          let z : run tag (drop at list) ≡ n = cc in
          let k = ltb-true _ _ l in
          (omega arith, omega arith)
      go false l g = let z : ◌≡◌ {A = ℕ} 0 1 = cc in absurd (omega arith)

  pub reach_past : r ≡ None → length list ≡ reach tag list at
  reach_past f = go (ltb (run tag (drop at list)) (length (drop at list))) refl where_run
    where
      go : (x : Bool) → ltb (run tag (drop at list)) (length (drop at list)) ≡ x → r ≡ (if x then Some (run tag (drop at list)) else None) → length list ≡ reach tag list at
      go true l g = let z : ◌≡◌ {A = ℕ} 0 1 = cc in absurd (omega arith)
      go false l g =
          let d = length-drop at list in
          let k = ltb-false _ _ l in
          let w = run_within tag (drop at list) in
          omega arith

-- A record from its authentication byte on.

module _ (list : List ℕ) (owner : Owner) (number at : ℕ) where
  pub body_wrong : at < length list → (tag_in (byte at list) ≡ authentication_tag → ⊥) → bad_record at ≡ body_at list owner number at
  body_wrong h ne = rw (lt-ltb at (length list) h, ne_eqb (tag_in (byte at list)) authentication_tag ne)

  pub body_read : {authentication confidentiality end : ℕ} → at < length list → tag_in (byte at list) ≡ authentication_tag
      → authentication ≡ number_in (byte at list) → confidentiality ≡ reach integrity_tag list (at + 1) → end ≡ reach confidentiality_tag list confidentiality
      → accepted (record { owner = owner; number = number; authentication = authentication; integrity = at + 1; confidentiality = confidentiality; end = end }) ≡ body_at list owner number at
  body_read h t a c e = rw (lt-ltb at (length list) h, eq-eqb (tag_in (byte at list)) authentication_tag t, a, e, c)

-- A record, by its first byte.

module _ (list : List ℕ) (p : ℕ) where
  pub at_standard : byte p list ≡ standard_start → record_at list p ≡ body_at list Standard (byte (p + 1) list) (p + 2)
  at_standard e = rw (eq-eqb (byte p list) standard_start e)

  pub at_own : {vendor : ℕ} → byte p list ≡ own_start → vendor ≡ little (byte (p + 2) list ∷ byte (p + 3) list ∷ byte (p + 4) list ∷ [])
      → record_at list p ≡ body_at list (Vendor vendor) (byte (p + 1) list) (p + 5)
  at_own e v = rw (ne_eqb (byte p list) standard_start (λ z. omega arith), eq-eqb (byte p list) own_start e, v)

  pub at_other : (byte p list ≡ standard_start → ⊥) → (byte p list ≡ own_start → ⊥) → record_at list p ≡ bad_record p
  at_other n m = rw (ne_eqb (byte p list) standard_start n, ne_eqb (byte p list) own_start m)

-- what is accepted from an authentication byte on
body_accepted : (list : List ℕ) (owner : Owner) (number at : ℕ) {r : TaggedRecord} → body_at list owner number at ≡ accepted r → (at < length list) × (record_with list owner number at ≡ r)
body_accepted list owner number at {r} = go (ltb at (length list)) (eqb (tag_in (byte at list)) authentication_tag) refl
  where
    go : (x y : Bool) → ltb at (length list) ≡ x → (if x then (if y then accepted (record_with list owner number at) else bad_record at) else bad_record (length list)) ≡ accepted r
        → (at < length list) × (record_with list owner number at ≡ r)
    go true true h e = (ltb-true _ _ h, cc)
    go true false h e = absurd (apart e)
    go false y h e = absurd (apart e)

-- a record's entry, read where it stands, and the bytes that it is read from
abbrev pub entry_at : List ℕ → ℕ → List ℕ
entry_at list at =
    if eqb (byte at list) standard_start then byte (at + 1) list ∷ 0 ∷ 0 ∷ 0 ∷ 0 ∷ [] else
    byte (at + 1) list ∷ 1 ∷ byte (at + 2) list ∷ byte (at + 3) list ∷ byte (at + 4) list ∷ []

abbrev pub Entered : List ℕ → ℕ → Type 0
Entered list at = (at + 2 < length list) × ((byte at list ≡ standard_start → ⊥) → at + 5 < length list)

pub entered : (list : List ℕ) (p : ℕ) {r : TaggedRecord} → ((k : ℕ) → byte k list < 256) → record_at list p ≡ accepted r → Entered list p × (entry_at list p ≡ entry r)
entered list p {r} b e = go (eqb (byte p list) standard_start) (eqb (byte p list) own_start) refl refl
  where
    vendor : List ℕ
    vendor = byte (p + 2) list ∷ byte (p + 3) list ∷ byte (p + 4) list ∷ []

    go : (x y : Bool) → eqb (byte p list) standard_start ≡ x → eqb (byte p list) own_start ≡ y → Entered list p × (entry_at list p ≡ entry r)
    go true y f g =
        let (h, z) = body_accepted list Standard (byte (p + 1) list) (p + 2) (sym (at_standard list p (eqb-true _ _ f)) ∙ e) in
        ((omega arith, λ n. absurd (n (eqb-true _ _ f))), rw (f, ← z))
    go false true f g =
        let (h, z) = body_accepted list (Vendor (little vendor)) (byte (p + 1) list) (p + 5) (sym (at_own list p (eqb-true _ _ g) refl) ∙ e) in
        let back = bytes_back vendor (b (p + 2), (b (p + 3), (b (p + 4), tt))) in
        ((omega arith, λ n. omega arith), rw (f, ← z) (ap (λ (l : List ℕ). byte (p + 1) list ∷ 1 ∷ l) (sym back)))
    go false false f g = absurd (apart (sym (at_other list p (eqb-false _ _ f) (eqb-false _ _ g)) ∙ e))

-- Every case of reading a record: it is whole; no record begins so; the list ends before the authentication byte; that byte has another tag.
pub data View (list : List ℕ) (p : ℕ) : Outcome TaggedRecord → Type 0 where
  whole : (owner : Owner) → owner_at list p ≡ Some owner → p + start_length owner < length list → tag_in (byte (p + start_length owner) list) ≡ authentication_tag
      → View list p (accepted (record_with list owner (byte (p + 1) list) (p + start_length owner)))
  unowned : owner_at list p ≡ None → View list p (bad_record p)
  short : (owner : Owner) → owner_at list p ≡ Some owner → length list ≤ p + start_length owner → View list p (bad_record (length list))
  untagged : (owner : Owner) → owner_at list p ≡ Some owner → p + start_length owner < length list → (tag_in (byte (p + start_length owner) list) ≡ authentication_tag → ⊥)
      → View list p (bad_record (p + start_length owner))

module _ (list : List ℕ) (p : ℕ) where
  view_body : (owner : Owner) → owner_at list p ≡ Some owner → View list p (body_at list owner (byte (p + 1) list) (p + start_length owner))
  view_body owner e = at_length (ltb at (length list)) refl
    where
      at : ℕ
      at = p + start_length owner

      at_tag : at < length list → (b : Bool) → eqb (tag_in (byte at list)) authentication_tag ≡ b
          → View list p (if b then accepted (record_with list owner (byte (p + 1) list) at) else bad_record at)
      at_tag h true t = whole owner e h (eqb-true _ _ t)
      at_tag h false t = untagged owner e h (eqb-false _ _ t)

      at_length : (b : Bool) → ltb at (length list) ≡ b
          → View list p (if b then (if eqb (tag_in (byte at list)) authentication_tag then accepted (record_with list owner (byte (p + 1) list) at) else bad_record at) else bad_record (length list))
      at_length true h = at_tag (ltb-true _ _ h) (eqb (tag_in (byte at list)) authentication_tag) refl
      at_length false h = short owner e (ltb-false _ _ h)

  pub view : View list p (record_at list p)
  view = go (owner_at list p) refl
    where
      go : (o : Option Owner) → owner_at list p ≡ o → View list p (start_at list p o)
      go None e = unowned e
      go (Some owner) e = view_body owner e

  -- a record has three bytes or more, and all of them lie in the list
  pub ends : {r : TaggedRecord} → record_at list p ≡ accepted r → (p + 3 ≤ r.end) × (r.end ≤ length list)
  ends {r} e = go (record_at list p) view e
    where
      go : (o : Outcome TaggedRecord) → View list p o → o ≡ accepted r → (p + 3 ≤ r.end) × (r.end ≤ length list)
      go o (whole owner w h t) e =
          let a = p + start_length owner + 1 in
          let i = reach_within integrity_tag list a (omega arith) in
          let c = reach_within confidentiality_tag list (reach integrity_tag list a) i.1 in
          let l = at_least owner in
          let z : reach confidentiality_tag list (reach integrity_tag list a) ≡ r.end = ap (elim [ accepted r ↦ r.end | refused n v ↦ 0 ]) e in
          (omega arith, omega arith)
        where
          at_least : (owner : Owner) → 2 ≤ start_length owner
          at_least Standard = omega arith
          at_least (Vendor v) = omega arith
      go o (unowned w) e = absurd (apart e)
      go o (short owner w h) e = absurd (apart e)
      go o (untagged owner w h t) e = absurd (apart e)

  -- a step, by the record that is read
  pub step_end : length list ≤ p → accepted None ≡ strict_step_at list p
  step_end h = rw (le-ltb p (length list) h)

  pub step_read : {o : Outcome TaggedRecord} → p < length list → record_at list p ≡ o → (o >>= λ r. accepted (Some r)) ≡ strict_step_at list p
  step_read h e = rw (lt-ltb p (length list) h, e)

-- Where a record ends, no record made.

abbrev pub body_end : List ℕ → ℕ → Outcome ℕ
body_end list at =
    if ltb at (length list) then
    (if eqb (tag_in (byte at list)) authentication_tag then accepted (reach confidentiality_tag list (reach integrity_tag list (at + 1))) else bad_record at) else
    bad_record (length list)

pub body_ends : (list : List ℕ) (owner : Owner) (number at : ℕ) → body_end list at ≡ end_of (body_at list owner number at)
body_ends list owner number at = go (ltb at (length list)) (eqb (tag_in (byte at list)) authentication_tag)
  where
    go : (x y : Bool)
        → (if x then (if y then accepted (reach confidentiality_tag list (reach integrity_tag list (at + 1))) else bad_record at) else bad_record (length list))
        ≡ end_of (if x then (if y then accepted (record_with list owner number at) else bad_record at) else bad_record (length list))
    go true true = refl
    go true false = refl
    go false y = refl

-- by the bytes before the authentication byte
module _ (list : List ℕ) (p : ℕ) {start : Option ℕ} (e : start ≡ (if eqb (byte p list) standard_start then Some 2 else if eqb (byte p list) own_start then Some 5 else None)) where
  pub started_none : start ≡ None → bad_record p ≡ end_of (record_at list p)
  started_none z = go (eqb (byte p list) standard_start) (eqb (byte p list) own_start) refl refl e
    where
      go : (x y : Bool) → eqb (byte p list) standard_start ≡ x → eqb (byte p list) own_start ≡ y → start ≡ (if x then Some 2 else if y then Some 5 else None) → bad_record p ≡ end_of (record_at list p)
      go true y f g e = let z : ◌≡◌ {A = ℕ} 0 1 = cc in absurd (omega arith)
      go false true f g e = let z : ◌≡◌ {A = ℕ} 0 1 = cc in absurd (omega arith)
      go false false f g e = ap end_of (sym (at_other list p (eqb-false _ _ f) (eqb-false _ _ g)))

  pub started_some : {n : ℕ} → start ≡ Some n → body_end list (p + n) ≡ end_of (record_at list p)
  started_some {n} z = go (eqb (byte p list) standard_start) (eqb (byte p list) own_start) refl refl e
    where
      go : (x y : Bool) → eqb (byte p list) standard_start ≡ x → eqb (byte p list) own_start ≡ y → start ≡ (if x then Some 2 else if y then Some 5 else None) → body_end list (p + n) ≡ end_of (record_at list p)
      go true y f g e = let k : n ≡ 2 = cc in rw k (body_ends list Standard (byte (p + 1) list) (p + 2) ∙ sym (ap end_of (at_standard list p (eqb-true _ _ f))))
      go false true f g e = let k : n ≡ 5 = cc in rw k (body_ends list (Vendor (little (byte (p + 2) list ∷ byte (p + 3) list ∷ byte (p + 4) list ∷ []))) (byte (p + 1) list) (p + 5) ∙ sym (ap end_of (at_own list p (eqb-true _ _ g) refl)))
      go false false f g e = let z : ◌≡◌ {A = ℕ} 0 1 = cc in absurd (omega arith)

pub no : {A : Type 0} → false ≡ true → A
no e = let z : ◌≡◌ {A = ℕ} 0 1 = cc in absurd (omega arith)

-- a record of five bytes, one for each algorithm
module _ (list : List ℕ) (p : ℕ) (l : p + 5 ≤ length list) (s : byte p list ≡ standard_start) (a : tag_in (byte (p + 2) list) ≡ authentication_tag)
    (i : tag_in (byte (p + 3) list) ≡ integrity_tag) (c : tag_in (byte (p + 4) list) ≡ confidentiality_tag) where
  plain_until : reach confidentiality_tag list (p + 5) ≡ p + 5 → end_of (record_at list p) ≡ accepted (p + 5)
  plain_until e =
      let x : p + 2 + 1 ≡ p + 3 = omega arith in
      let y : p + 3 + 1 ≡ p + 4 = omega arith in
      let z : p + 4 + 1 ≡ p + 5 = omega arith in
      let f : reach integrity_tag list (p + 2 + 1) ≡ p + 4 = rw x (reach_on integrity_tag list (p + 3) (omega arith) i ∙ rw y (reach_stop integrity_tag list (p + 4) (omega arith) (λ h. omega arith))) in
      let g : reach confidentiality_tag list (p + 4) ≡ p + 5 = reach_on confidentiality_tag list (p + 4) (omega arith) c ∙ rw z e in
      ap end_of (at_standard list p s) ∙ sym (body_ends list Standard (byte (p + 1) list) (p + 2)) ∙ rw (lt-ltb (p + 2) (length list) (omega arith), eq-eqb (tag_in (byte (p + 2) list)) authentication_tag a, f, g)

  pub plain_last : length list ≤ p + 5 → end_of (record_at list p) ≡ accepted (p + 5)
  plain_last h = plain_until (reach_end confidentiality_tag list (p + 5) h)

  pub plain_next : p + 5 < length list → (tag_in (byte (p + 5) list) ≡ confidentiality_tag → ⊥) → end_of (record_at list p) ≡ accepted (p + 5)
  plain_next h n = plain_until (reach_stop confidentiality_tag list (p + 5) h n)

-- what an end tells of the record
module _ {a : Result ℕ Refusal} {o : Outcome TaggedRecord} (e : said a ≡ end_of o) where
  pub told_end : {end : ℕ} → a ≡ Ok end → (r : TaggedRecord) × (o ≡ accepted r) × (r.end ≡ end)
  told_end f = let (r, g, h) = steps o (λ r. accepted r.end) (sym e ∙ ap said f) in (r, g, cc)

  pub told_bad : {r : Refusal} → a ≡ Err r → o ≡ refusal r
  told_bad {r} f = go o (sym e ∙ ap said f)
    where
      go : (o : Outcome TaggedRecord) → end_of o ≡ refusal r → o ≡ refusal r
      go (accepted r) e = absurd (apart (sym e))
      go (refused n v) e = cc

-- Records one behind the other.

-- a record, and what is read from its end on
abbrev pub before : (ℕ → Outcome (List TaggedRecord)) → Outcome TaggedRecord → Outcome (List TaggedRecord)
before from o = do
  r ← o
  records ← from r.end
  accepted (r ∷ records)

-- the records from a place on
abbrev pub rest_of : List ℕ → ℕ → Outcome (List TaggedRecord)
rest_of list p = records_from (length list - p) list p

module _ (list : List ℕ) where
  same_before : (p : ℕ) (f g : ℕ → Outcome (List TaggedRecord)) → ((q : ℕ) → p < q → f q ≡ g q) → (o : Outcome TaggedRecord) → record_at list p ≡ o → before f o ≡ before g o
  same_before p f g same (accepted r) e = let l = ends list p e in rw (same r.end (omega arith))
  same_before p f g same (refused n v) e = refl

  -- more steps than bytes are left add nothing
  pub enough : (k j p : ℕ) → length list ≤ p + k → length list ≤ p + j → records_from k list p ≡ records_from j list p
  unfolding records_from
  enough zero zero p h i = refl
  enough zero (suc j) p h i = rw (le-ltb p (length list) (omega arith))
  enough (suc k) zero p h i = rw (le-ltb p (length list) (omega arith))
  enough (suc k) (suc j) p h i =
      let e = same_before p (records_from k list) (records_from j list) (λ q l. enough k j q (omega arith) (omega arith)) (record_at list p) refl in
      ap (λ (x : Outcome (List TaggedRecord)). if ltb p (length list) then x else accepted []) e

  pub rest_all : rest_of list 0 ≡ records_of list
  rest_all = let z : length list - 0 ≡ length list = omega arith in rw z

  module _ (p : ℕ) where
    pub rest_end : length list ≤ p → rest_of list p ≡ accepted []
    unfolding records_from
    rest_end h = let z : length list - p ≡ 0 = omega arith in rw z

    pub rest_read : {o : Outcome TaggedRecord} → p < length list → record_at list p ≡ o → rest_of list p ≡ before (rest_of list) o
    unfolding records_from
    rest_read {o} h e = more (length list - p) refl
      where
        more : (k : ℕ) → k ≡ length list - p → records_from k list p ≡ before (rest_of list) o
        more zero z = absurd (omega arith)
        more (suc k) z = rw (lt-ltb p (length list) h, e) (same_before p (records_from k list) (rest_of list) (λ q l. enough k (length list - q) q (omega arith) (omega arith)) o e)

-- n records were counted before a place
abbrev pub counted : List ℕ → ℕ → ℕ → Outcome ℕ
counted list n p = do
  records ← rest_of list p
  accepted (n + length records)

module _ (list : List ℕ) where
  pub counted_all : counted list 0 0 ≡ count_of list
  counted_all = rw (rest_all list) (simp zero-add)

  module _ (n p : ℕ) where
    pub counted_end : length list ≤ p → counted list n p ≡ accepted n
    counted_end h = rw (rest_end list p h) (ap accepted (omega arith))

    pub counted_bad : (r : Refusal) → p < length list → record_at list p ≡ refusal r → counted list n p ≡ refusal r
    counted_bad r h e = rw (rest_read list p h e)

    pub counted_on : {r : TaggedRecord} → p < length list → record_at list p ≡ accepted r → counted list n p ≡ counted list (n + 1) r.end
    counted_on {r} h e = rw (rest_read list p h e) (go (rest_of list r.end))
      where
        go : (o : Outcome (List TaggedRecord)) → ((o >>= λ records. accepted (r ∷ records)) >>= λ records. accepted (n + length records)) ≡ (o >>= λ records. accepted (n + 1 + length records))
        go (accepted records) = ap accepted (omega arith)
        go (refused k v) = refl

-- Reading by steps.

-- at the end nothing is left; else a step's record, and what is left where it ends
abbrev pub followed : List ℕ → Option TaggedRecord → Outcome (List TaggedRecord)
followed list None = accepted []
followed list (Some r) = before (rest_of list) (accepted r)

-- Who takes one step after the other gets the list's records; the first step that is refused is refused as the list is.
pub by_steps : (list : List ℕ) (p : ℕ) → rest_of list p ≡ (strict_step_at list p >>= followed list)
by_steps list p = go (ltb p (length list)) refl
  where
    same : (o : Outcome TaggedRecord) → before (rest_of list) o ≡ ((o >>= λ r. accepted (Some r)) >>= followed list)
    same (accepted r) = refl
    same (refused n v) = refl

    go : (b : Bool) → ltb p (length list) ≡ b → rest_of list p ≡ (strict_step_at list p >>= followed list)
    go false e = rw e (rest_end list p (ltb-false _ _ e))
    go true e = rw e (rest_read list p (ltb-true _ _ e) refl ∙ same (record_at list p))
