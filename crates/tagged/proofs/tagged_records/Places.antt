-- Refusal 16: "the place of the first byte from which no continuation gives a legal sequence, or the length if only the end is missing".
use mathlib.Core.Path.{◌≡◌, refl, sym, ◌∙◌, ap}
use mathlib.Core.Bool.{Bool, true, false}
use mathlib.Core.List.{List, [], ◌∷◌, ◌++◌, map, append_assoc, append-nil}
use Prim.Native.Nat.{ℕ, zero, suc, ◌+◌, ◌-◌, ◌≤◌, ◌<◌}
use native.Mathlib.Omega.{arith}
use borrow.Author.Tests.{ltb-true, ltb-false}
use lib.Dec.{ltb}
use lib.ListN.{length, take, drop, replicate, length-append, length-drop, take-append-drop, get_or-append}
use lib.Seq.{take-append-le, take-append-add, get_or-append-add, get_or-take, length-take-le}
use Rattle.std.specs.Prelude.{None, Some, if◌then◌else◌}
use Rattle.base.specs.Field.{Bytes, byte}
use Rattle.base.specs.Outcome.{Outcome, accepted, refused, ◌>>=◌}
use Rattle.base.proofs.Outcome.{apart}
use Rattle.base.proofs.little.Laws.{bytes_both, bytes_drop, bytes_zeros, zero_at}
use Rattle.tagged.specs.Format.{Sequence, Suite, algorithm_bytes, all_fit, authentication_tag, confidentiality_tag, fits, integrity_tag, own_start, owner_fits, sequence_bytes, standard_start, start_bytes, suite_bytes, suites_fit, tagged}
use Rattle.tagged.specs.TaggedRecords.{bad_record, record_at, record_with, records_from, records_of, run, start_length, suite_from, suite_in, tag_in}
use Rattle.tagged.specs.declared.tagged_records.Owner.{Owner}
use Rattle.tagged.specs.declared.tagged_records.Owner.TheVariants.{Standard, Vendor}
use Rattle.tagged.specs.declared.tagged_records.TaggedRecord.{TaggedRecord}
use Rattle.tagged.proofs.tagged_records.Format.{Is, Start, at_place, both_true, fit_head, neither, next, own, owner_fits_lem, record_back, run_first, run_none, standard, start_back, start_bytes_lem, started, tag_is, with_is}
use Rattle.tagged.proofs.tagged_records.Steps.{View, short, unowned, untagged, view, whole}
use Rattle.tagged.proofs.tagged_records.Writing.{start_short}
use Rattle.tagged.proofs.tagged_records.Sequences.{begins, confidentiality_fits, integrity_stops, some_bytes}

same_place : {A : Type 0} {p q : ℕ} → ◌≡◌ {A = Outcome A} (bad_record p) (bad_record q) → p ≡ q
same_place e = cc

bytes_left : (s t : List ℕ) → Bytes (s ++ t) → Bytes s
bytes_left [] t b = tt
bytes_left (x ∷ s) t b = (b.0, bytes_left s t b.1)

-- a record's bytes up to any place can be gone on with
complete : (t : List ℕ) (s : Suite) (j : ℕ) → fits s ≡ true → Bytes (suite_bytes s) → take j t ≡ take j (suite_bytes s) → (c : List ℕ) × Bytes c × Sequence (take j t ++ c)
complete t s j f b e =
    let r : sequence_bytes (s ∷ []) ≡ suite_bytes s = append-nil (suite_bytes s) in
    (drop j (suite_bytes s), bytes_drop j (suite_bytes s) b, (s ∷ [], (rw f, rw (e, r) (take-append-drop j (suite_bytes s)))))

-- the first bytes of a list, with what is put behind them
kept : (x c : List ℕ) (m k : ℕ) → k < m → m ≤ length x → byte k (take m x ++ c) ≡ byte k x
kept x c m k h l =
    let n = length-take-le m x l in
    get_or-append (take m x) c 0 k (omega arith) ∙ get_or-take m x k 0 h

start_long : (owner : Owner) (n : ℕ) → length (start_bytes owner n) ≡ start_length owner
start_long Standard n = refl
start_long (Vendor v) n = refl

suite_long : (s : Suite) → start_length s.owner < length (suite_bytes s)
suite_long s =
    let all = algorithm_bytes s.authentication s.integrity s.confidentiality in
    let e = length-append (start_bytes s.owner s.number) all in
    let z = start_long s.owner s.number in
    omega arith

first_is : (suites : List Suite) (x : ℕ) (t : List ℕ) → x ∷ t ≡ sequence_bytes suites → (x ≡ standard_start → ⊥) → (x ≡ own_start → ⊥) → ⊥
first_is [] x t e p q = let z = ap length e in omega arith
first_is (s ∷ suites) x t e p q = go s.owner (ap (byte 0) e)
  where
    go : (o : Owner) → x ≡ byte 0 ((start_bytes o s.number ++ algorithm_bytes s.authentication s.integrity s.confidentiality) ++ sequence_bytes suites) → ⊥
    go Standard e = p e
    go (Vendor v) e = q e

same_record : {x y : TaggedRecord} → accepted x ≡ accepted y → x ≡ y
same_record e = cc

-- behind a confidentiality byte no integrity byte is looked for
behind_confidentiality : (c d rest : List ℕ) → all_fit c ≡ true → (run integrity_tag d ≡ 0 → run integrity_tag rest ≡ 0) → run integrity_tag (map (tagged confidentiality_tag) c ++ d) ≡ 0
    → run integrity_tag (map (tagged confidentiality_tag) c ++ rest) ≡ 0
behind_confidentiality [] d rest f h e = h e
behind_confidentiality (n ∷ c) d rest f h e = run_none integrity_tag (omega arith) confidentiality_tag n (map (tagged confidentiality_tag) c ++ rest) (omega arith) (fit_head n c f).0 (λ e. omega arith)

-- a list that ends inside a record's start, with zeros put behind it
module _ (list : List ℕ) (b : Bytes list) (p : ℕ) where
  abbrev filled : List ℕ
  filled = drop p list ++ replicate 6 0

  filled_bytes : Bytes filled
  filled_bytes = bytes_both (drop p list) (replicate 6 0) (bytes_drop p list b) (bytes_zeros 6)

  filled_first : p < length list → byte 0 filled ≡ byte p list
  filled_first h =
      let d = length-drop p list in
      let z : p + 0 ≡ p = omega arith in
      get_or-append (drop p list) (replicate 6 0) 0 0 (omega arith) ∙ sym (at_place list p 0) ∙ ap (λ (k : ℕ). byte k list) z

  filled_zero : (k : ℕ) → length list ≤ p + k → p ≤ length list → byte k filled ≡ 0
  filled_zero k h l =
      let d = length-drop p list in
      let z : k ≡ length (drop p list) + (k - length (drop p list)) = omega arith in
      ap (λ (i : ℕ). byte i filled) z ∙ get_or-append-add (drop p list) (replicate 6 0) (k - length (drop p list)) 0 ∙ zero_at 6 (k - length (drop p list))

  filled_start : (owner : Owner) → Start list p (Some owner) → p < length list → (o : Owner) × Start filled 0 (Some o) × (start_length o ≡ start_length owner)
  filled_start owner (standard e) h = (Standard, standard (filled_first h ∙ e), refl)
  filled_start owner (own e) h = (_, own (filled_first h ∙ e), refl)

module _ (list : List ℕ) (b : Bytes list) where
  -- a record's end, and its bytes
  end_is : (p : ℕ) (r : TaggedRecord) → Is list b p r → p < length list → r.end ≡ p + length (suite_bytes (suite_in list r))
  end_is p r is h =
      let e = ap length is.bytes in
      let a = length-append (suite_bytes (suite_in list r)) (drop r.end list) in
      let d = length-drop p list in
      let f = length-drop r.end list in
      let i = is.inside in
      omega arith

  -- a record that begins here, and those behind it
  abbrev From : ℕ → Outcome TaggedRecord → Outcome (List TaggedRecord)
  From k x = x >>= λ r. records_from k list r.end >>= λ rs. accepted (r ∷ rs)

  here : (k p q : ℕ) → records_from (suc k) list p ≡ bad_record q → (p < length list) × (From k (record_at list p) ≡ bad_record q)
  unfolding records_from
  here k p q e = go (ltb p (length list)) refl e
    where
      go : (x : Bool) → ltb p (length list) ≡ x → (if x then From k (record_at list p) else accepted []) ≡ bad_record q → (p < length list) × (From k (record_at list p) ≡ bad_record q)
      go true l e = (ltb-true _ _ l, e)
      go false l e = absurd (apart (sym e))

  none_left : (p q : ℕ) → records_from zero list p ≡ bad_record q → ⊥
  unfolding records_from
  none_left p q e = apart (sym e)

  later : (k p q : ℕ) (r : TaggedRecord) → (records_from k list p >>= λ rs. accepted (r ∷ rs)) ≡ bad_record q → records_from k list p ≡ bad_record q
  later k p q r e = go (records_from k list p) e
    where
      go : (x : Outcome (List TaggedRecord)) → (x >>= λ rs. accepted (r ∷ rs)) ≡ bad_record q → x ≡ bad_record q
      go (accepted rs) e = absurd (apart (sym e))
      go (refused n v) e = cc

  -- the place lies behind the start, and in the list or at its end
  range : (k p q : ℕ) → records_from k list p ≡ bad_record q → (p ≤ q) × (q ≤ length list)
  range zero p q e = absurd (none_left p q e)
  range (suc k) p q e = let (h, f) = here k p q e in go (record_at list p) (view list p) h f (λ r g. range k r.end q g)
    where
      go : (x : Outcome TaggedRecord) → View list p x → p < length list → From k x ≡ bad_record q → ((r : TaggedRecord) → records_from k list r.end ≡ bad_record q → (r.end ≤ q) × (q ≤ length list))
          → (p ≤ q) × (q ≤ length list)
      go x (whole owner w h t) l e more =
          let r = record_with list owner (byte (p + 1) list) (p + start_length owner) in
          let i = (with_is list b p owner (started list p w) h t).longer in
          let (m, n) = more r (later k r.end q r e) in
          (omega arith, n)
      go x (unowned w) l e more = let z : p ≡ q = same_place e in (omega arith, omega arith)
      go x (untagged owner w h t) l e more = let z : p + start_length owner ≡ q = same_place e in (omega arith, omega arith)
      go x (short owner w h) l e more = let z : length list ≡ q = same_place e in (omega arith, omega arith)

  -- The first half: what stands before the place can be gone on with.

  abbrev Goes : ℕ → ℕ → Type 0
  Goes j p = (c : List ℕ) × Bytes c × Sequence (take j (drop p list) ++ c)

  goes_untagged : (p j : ℕ) (owner : Owner) → Start list p (Some owner) → p + start_length owner < length list → j ≤ start_length owner → Goes j p
  goes_untagged p j owner s h m =
      let start = start_bytes owner (byte (p + 1) list) in
      let e = start_bytes_lem list b p owner s h in
      let l = start_long owner (byte (p + 1) list) in
      let d = bytes_drop p list b in
      let c = bytes_left start (drop (p + start_length owner) list) (rw e at d) in
      let short : j ≤ length start = omega arith in
      complete
      (drop p list)
      (suite_from owner (byte (p + 1) list) 0 [] [])
      j
      (rw (owner_fits_lem list b p owner s))
      (bytes_both start (0 ∷ []) c (omega arith, tt))
      (ap (take j) e ∙ take-append-le j start (drop (p + start_length owner) list) short ∙ sym (take-append-le j start (0 ∷ []) short))

  goes_short : (p j : ℕ) (owner : Owner) → Start list p (Some owner) → length list ≤ p + start_length owner → p < length list → p + j ≤ length list → Goes j p
  goes_short p j owner s h l m =
      let (o, st, same) = filled_start list b p owner s l in
      let t = filled list b p in
      let d = length-drop p list in
      let a = length-append (drop p list) (replicate 6 0) in
      let five = start_short owner in
      let z : 0 + start_length o ≡ start_length o = omega arith in
      let zero : byte (0 + start_length o) t ≡ 0 = rw z (filled_zero list b p (start_length o) (omega arith) (omega arith)) in
      let is = with_is t (filled_bytes list b p) 0 o st (omega arith) (rw zero) in
      let r = record_with t o (byte (0 + 1) t) (0 + start_length o) in
      let x = suite_in t r in
      let long = suite_long x in
      let f = filled_bytes list b p in
      complete
      (drop p list)
      x
      j
      is.fit
      (bytes_left (suite_bytes x) (drop r.end t) (rw is.bytes at f))
      (sym (take-append-le j (drop p list) (replicate 6 0) (omega arith)) ∙ ap (take j) is.bytes ∙ take-append-le j (suite_bytes x) (drop r.end t) (omega arith))

  goes_behind : (p j : ℕ) (r : TaggedRecord) → Is list b p r → p < length list → ((i : ℕ) → j ≡ length (suite_bytes (suite_in list r)) + i → Goes i r.end) → Goes j p
  goes_behind p j r is l more = go (ltb (length (suite_bytes (suite_in list r))) j) refl
    where
      go : (v : Bool) → ltb (length (suite_bytes (suite_in list r))) j ≡ v → Goes j p
      go false t =
          let x = suite_in list r in
          let d = bytes_drop p list b in
          complete (drop p list) x j is.fit (bytes_left (suite_bytes x) (drop r.end list) (rw is.bytes at d)) (ap (take j) is.bytes ∙ take-append-le j (suite_bytes x) (drop r.end list) (ltb-false _ _ t))
      go true t =
          let x = suite_in list r in
          let i = j - length (suite_bytes x) in
          let h = ltb-true (length (suite_bytes x)) j t in
          let z : j ≡ length (suite_bytes x) + i = omega arith in
          let (c, cb, (ss, (fit, e))) = more i z in
          let a : take j (drop p list) ≡ suite_bytes x ++ take i (drop r.end list) = ap (λ (m : ℕ). take m (drop p list)) z ∙ (ap (take (length (suite_bytes x) + i)) is.bytes ∙ take-append-add (suite_bytes x) (drop r.end list) i) in
          (c, cb, (x ∷ ss, (rw is.fit fit, rw a (append_assoc (suite_bytes x) (take i (drop r.end list)) c ∙ ap (λ (y : List ℕ). suite_bytes x ++ y) e))))

  goes_on : (k p q j : ℕ) → records_from k list p ≡ bad_record q → p + j ≤ q → Goes j p
  goes_on zero p q j e m = absurd (none_left p q e)
  goes_on (suc k) p q j e m = let (h, f) = here k p q e in go (record_at list p) (view list p) h f (λ r i g n. goes_on k r.end q i g n)
    where
      go : (x : Outcome TaggedRecord) → View list p x → p < length list → From k x ≡ bad_record q
          → ((r : TaggedRecord) (i : ℕ) → records_from k list r.end ≡ bad_record q → r.end + i ≤ q → Goes i r.end) → Goes j p
      go x (unowned w) l e more =
          let z : p ≡ q = same_place e in
          let y : j ≡ 0 = omega arith in
          rw y ([], tt, ([], (refl, refl)))
      go x (untagged owner w h t) l e more = let z : p + start_length owner ≡ q = same_place e in goes_untagged p j owner (started list p w) h (omega arith)
      go x (short owner w h) l e more = let z : length list ≡ q = same_place e in goes_short p j owner (started list p w) h l (omega arith)
      go x (whole owner w h t) l e more =
          let r = record_with list owner (byte (p + 1) list) (p + start_length owner) in
          let is = with_is list b p owner (started list p w) h t in
          let en = end_is p r is l in
          goes_behind p j r is l (λ i y. more r i (later k r.end q r e) (omega arith))

  -- The second half: with the byte at the place, it cannot.

  shut_unowned : (p : ℕ) → Start list p None → p < length list → (c : List ℕ) (suites : List Suite) → take 1 (drop p list) ++ c ≡ sequence_bytes suites → ⊥
  shut_unowned p (neither x y) l c suites e = first_is suites (byte p list) c (rw (next list p l) at e) x y

  same_start : (p : ℕ) (owner o : Owner) (n : ℕ) (t : List ℕ) → Start list p (Some owner) → byte p list ≡ byte 0 (start_bytes o n ++ t) → start_length o ≡ start_length owner
  same_start p owner Standard n t (standard x) e = refl
  same_start p owner Standard n t (own x) e = absurd (omega arith)
  same_start p owner (Vendor v) n t (standard x) e = absurd (omega arith)
  same_start p owner (Vendor v) n t (own x) e = refl

  shut_untagged : (p : ℕ) (owner : Owner) → Start list p (Some owner) → p + start_length owner < length list → (tag_in (byte (p + start_length owner) list) ≡ authentication_tag → ⊥)
      → (c : List ℕ) (suites : List Suite) → suites_fit suites ≡ true → take (suc (start_length owner)) (drop p list) ++ c ≡ sequence_bytes suites → ⊥
  shut_untagged p owner s h t c [] f e =
      let d = length-drop p list in
      let l = length-take-le (suc (start_length owner)) (drop p list) (omega arith) in
      let a = length-append (take (suc (start_length owner)) (drop p list)) c in
      let z = ap length e in
      omega arith
  shut_untagged p owner s h t c (x ∷ suites) f e =
      let u = take (suc (start_length owner)) (drop p list) ++ c in
      let fx = (both_true (fits x) (suites_fit suites) f).0 in
      let d = length-drop p list in
      let all = algorithm_bytes x.authentication x.integrity x.confidentiality in
      let e' = e ∙ append_assoc (start_bytes x.owner x.number) all (sequence_bytes suites) in
      let (o, n, rest) = start_back u 0 x.owner x.number (all ++ sequence_bytes suites) (both_true (owner_fits x.owner) _ fx).0 e' in
      let at : (k : ℕ) → k ≤ start_length owner → byte k u ≡ byte (p + k) list = λ k m. kept (drop p list) c (suc (start_length owner)) k (omega arith) (omega arith) ∙ sym (at_place list p k) in
      let z : p + 0 ≡ p = omega arith in
      let first : byte p list ≡ byte 0 u = rw z at (sym (at 0 (omega arith))) in
      let same = same_start p owner x.owner x.number (all ++ sequence_bytes suites) s (first ∙ ap (byte 0) e') in
      let w : 0 + start_length x.owner ≡ start_length owner = omega arith in
      let y : start_length owner + 0 ≡ start_length owner = omega arith in
      let here = ap (byte 0) (rw w at rest) in
      let there : byte (start_length owner) u ≡ tagged authentication_tag x.authentication = rw y at (at_place u (start_length owner) 0 ∙ here) in
      let small = (both_true (ltb x.authentication 64) _ (both_true (owner_fits x.owner) _ fx).1).0 in
      t (ap tag_in (sym (at (start_length owner) (omega arith)) ∙ there) ∙ tag_is authentication_tag x.authentication (omega arith) (ltb-true _ _ small))

  -- what ends the record in the list ends it in front of any bytes that begin alike
  shut_whole : (p q : ℕ) (r : TaggedRecord) → Is list b p r → p < length list → r.end ≤ q → q < length list → (c : List ℕ) (suites : List Suite) → suites_fit suites ≡ true
      → take (suc q - p) (drop p list) ++ c ≡ sequence_bytes suites
      → ((later : List Suite) → suites_fit later ≡ true → take (suc q - r.end) (drop r.end list) ++ c ≡ sequence_bytes later → ⊥) → ⊥
  shut_whole p q r is l h m c suites f e more = go suites f e
    where
      cut_off : take (suc q - p) (drop p list) ++ c ≡ suite_bytes (suite_in list r) ++ (take (suc q - r.end) (drop r.end list) ++ c)
      cut_off =
          let s = suite_bytes (suite_in list r) in
          let d = drop r.end list in
          let i = suc q - r.end in
          let en = end_is p r is l in
          let z : suc q - p ≡ length s + i = omega arith in
          ap (λ (y : List ℕ). y ++ c) (ap (λ (n : ℕ). take n (drop p list)) z ∙ (ap (take (length s + i)) is.bytes ∙ take-append-add s d i)) ∙ append_assoc s (take i d) c

      begun : take (suc q - r.end) (drop r.end list) ++ c ≡ byte r.end list ∷ (take (q - r.end) (drop (r.end + 1) list) ++ c)
      begun =
          let z : suc q - r.end ≡ suc (q - r.end) = omega arith in
          rw (z, next list r.end (omega arith))

      stops : (t : ℕ) → t < 4 → run t (drop r.end list) ≡ 0 → run t (take (suc q - r.end) (drop r.end list) ++ c) ≡ 0
      stops t small e = rw begun (run_first t small (byte r.end list) (drop (r.end + 1) list) (take (q - r.end) (drop (r.end + 1) list) ++ c) (rw (next list r.end (omega arith)) at e))

      go : (suites : List Suite) → suites_fit suites ≡ true → take (suc q - p) (drop p list) ++ c ≡ sequence_bytes suites → ⊥
      go [] f e = let n = some_bytes (suite_in list r) (take (suc q - r.end) (drop r.end list) ++ c) in let a = ap length cut_off in let z = ap length e in omega arith
      go (y ∷ ss) f e =
          let t = take (suc q - p) (drop p list) ++ c in
          let (fy, fs) = both_true (fits y) (suites_fit ss) f in
          let rest = take (suc q - r.end) (drop r.end list) ++ c in
          let (r1, b1) = record_back t 0 (suite_in list r) rest cut_off is.fit (stops confidentiality_tag (omega arith) is.confidentiality_ends)
          (behind_confidentiality (suite_in list r).confidentiality (drop r.end list) rest (confidentiality_fits (suite_in list r) is.fit) (stops integrity_tag (omega arith)) is.integrity_ends) in
          let (r2, b2) = record_back t 0 y (sequence_bytes ss) e fy (begins confidentiality_tag (omega arith) ss) (integrity_stops y.confidentiality (sequence_bytes ss) (confidentiality_fits y fy) (begins integrity_tag (omega arith) ss)) in
          let z : r1 ≡ r2 = same_record (sym b1.reads ∙ b2.reads) in
          more ss fs (sym b1.ends ∙ ap (λ (r : TaggedRecord). drop r.end t) z ∙ b2.ends)

  shut : (k p q : ℕ) → records_from k list p ≡ bad_record q → q < length list → (c : List ℕ) (suites : List Suite) → suites_fit suites ≡ true
      → take (suc q - p) (drop p list) ++ c ≡ sequence_bytes suites → ⊥
  shut zero p q e m c suites f g = none_left p q e
  shut (suc k) p q e m c suites f g = let (h, i) = here k p q e in go (record_at list p) (view list p) h i (λ r j ss u v. shut k r.end q j m c ss u v)
    where
      go : (x : Outcome TaggedRecord) → View list p x → p < length list → From k x ≡ bad_record q
          → ((r : TaggedRecord) → records_from k list r.end ≡ bad_record q → (ss : List Suite) → suites_fit ss ≡ true → take (suc q - r.end) (drop r.end list) ++ c ≡ sequence_bytes ss → ⊥) → ⊥
      go x (unowned w) l e more =
          let z : p ≡ q = same_place e in
          let one : suc q - p ≡ 1 = omega arith in
          shut_unowned p (started list p w) l c suites (rw one at g)
      go x (untagged owner w h t) l e more =
          let z : p + start_length owner ≡ q = same_place e in
          let n : suc q - p ≡ suc (start_length owner) = omega arith in
          shut_untagged p owner (started list p w) h t c suites f (rw n at g)
      go x (short owner w h) l e more = let z : length list ≡ q = same_place e in omega arith
      go x (whole owner w h t) l e more =
          let r = record_with list owner (byte (p + 1) list) (p + start_length owner) in
          let i = later k r.end q r e in
          shut_whole p q r (with_is list b p owner (started list p w) h t) l (range k r.end q i).0 m c suites f g (more r i)

-- The place lies in the list or at its end; every prefix that does not reach behind it has a legal continuation; the one that
-- includes its byte has none.
pub bad_place : (list : List ℕ) → Bytes list → (q : ℕ) → records_of list ≡ bad_record q
    → (q ≤ length list) × ((j : ℕ) → j ≤ q → (c : List ℕ) × Bytes c × Sequence (take j list ++ c)) × (q < length list → (c : List ℕ) → Sequence (take (suc q) list ++ c) → ⊥)
bad_place list b q e = (
  (range list b (length list) 0 q e).1,
  (λ j h. goes_on list b (length list) 0 q j e (omega arith)),
  λ h c s. let z : suc q - 0 ≡ suc q = omega arith in shut list b (length list) 0 q e h c s.0 s.1.0 (rw z s.1.1),
)

-- No other number refuses a sequence.

data Judged {A : Type 0} : Outcome A → Type 0 where
  fine : (a : A) → Judged (accepted a)
  bad : (q : ℕ) → Judged (bad_record q)

module _ (list : List ℕ) where
  record_judged : (p : ℕ) → Judged (record_at list p)
  record_judged p = go (record_at list p) (view list p)
    where
      go : (x : Outcome TaggedRecord) → View list p x → Judged x
      go x (whole owner w h t) = fine _
      go x (unowned w) = bad p
      go x (untagged owner w h t) = bad _
      go x (short owner w h) = bad (length list)

  judged : (k p : ℕ) → Judged (records_from k list p)
  unfolding records_from
  judged zero p = fine []
  judged (suc k) p = go (ltb p (length list)) (record_at list p) (record_judged p) (λ q. judged k q)
    where
      behind : (r : TaggedRecord) (x : Outcome (List TaggedRecord)) → Judged x → Judged (x >>= λ rs. accepted (r ∷ rs))
      behind r x (fine rs) = fine (r ∷ rs)
      behind r x (bad q) = bad q

      go : (t : Bool) (x : Outcome TaggedRecord) → Judged x → ((q : ℕ) → Judged (records_from k list q)) → Judged (if t then (x >>= λ r. records_from k list r.end >>= λ rs. accepted (r ∷ rs)) else accepted [])
      go false x j more = fine []
      go true x (fine r) more = behind r (records_from k list r.end) (more r.end)
      go true x (bad q) more = bad q

  pub refused_place : (n : ℕ) (v : List ℕ) → records_of list ≡ refused n v → (q : ℕ) × (records_of list ≡ bad_record q)
  refused_place n v e = go (records_of list) (judged (length list) 0) e
    where
      go : (x : Outcome (List TaggedRecord)) → Judged x → x ≡ refused n v → (q : ℕ) × (x ≡ bad_record q)
      go x (fine rs) e = absurd (apart (sym e))
      go x (bad q) e = (q, refl)
