-- Laws of one record: what is read at a position, and what bytes a record is.
use mathlib.Core.Path.{◌≡◌, refl, sym, ◌∙◌, ap}
use mathlib.Core.Bool.{Bool, true, false}
use mathlib.Core.List.{List, [], ◌∷◌, ◌++◌, map, append_assoc}
use Prim.Native.Nat.{ℕ, zero, suc, ◌+◌, ◌/◌, ◌%◌, ◌^◌, ◌≤◌, ◌<◌}
use native.Mathlib.Omega.{arith}
use borrow.Author.Tests.{eq-eqb, ne_eqb, eqb-true, eqb-false, lt-ltb, ltb-true}
use lib.Dec.{eqb, ltb}
use lib.ListN.{length, take, drop, length-drop, length-map, take-append-drop}
use lib.Seq.{slice, drop-cons, drop-drop, drop_at, take_at, take-nil, get_or-drop}
use Rattle.std.specs.Prelude.{Option, None, Some, if◌then◌else◌}
use Rattle.base.specs.Field.{Bytes, byte}
use Rattle.base.specs.Little.{little}
use Rattle.base.specs.Outcome.{Outcome, accepted}
use Rattle.base.proofs.Outcome.{apart}
use Rattle.base.proofs.little.Laws.{a_byte, bytes_back, bytes_drop, number_back, number_fits}
use Rattle.tagged.specs.Format.{Suite, algorithm_bytes, all_fit, authentication_tag, confidentiality_tag, fits, integrity_tag, own_start, owner_fits, standard_start, start_bytes, suite_bytes, tagged}
use Rattle.tagged.specs.TaggedRecords.{body_at, number_in, numbers_in, owner_at, reach, record_at, record_with, run, start_length, suite_from, suite_in, tag_in}
use Rattle.tagged.specs.declared.tagged_records.Owner.{Owner}
use Rattle.tagged.specs.declared.tagged_records.Owner.TheVariants.{Standard, Vendor}
use Rattle.tagged.specs.declared.tagged_records.TaggedRecord.{TaggedRecord}
use Rattle.tagged.proofs.tagged_records.Steps.{View, reach_within, short, unowned, untagged, view, whole}

-- An algorithm byte is its tag and its number.

pub tag_back : (b : ℕ) → b < 256 → tagged (tag_in b) (number_in b) ≡ b
tag_back b h = omega arith

pub tag_is : (t n : ℕ) → t < 4 → n < 64 → tag_in (tagged t n) ≡ t
tag_is t n h k = omega arith

pub number_is : (t n : ℕ) → n < 64 → number_in (tagged t n) ≡ n
number_is t n h = omega arith

number_small : (b : ℕ) → number_in b < 64
number_small b = omega arith

false_true : {A : Type 0} → false ≡ true → A
false_true e = let z : ◌≡◌ {A = ℕ} 0 1 = cc in absurd (omega arith)

-- both tests of a chain pass
pub both_true : (x y : Bool) → (if x then y else false) ≡ true → (x ≡ true) × (y ≡ true)
both_true true y e = (refl, e)
both_true false y e = false_true e

pub fit_head : (n : ℕ) (ns : List ℕ) → all_fit (n ∷ ns) ≡ true → (n < 64) × (all_fit ns ≡ true)
fit_head n ns e = let (p, q) = both_true (ltb n 64) (all_fit ns) e in (ltb-true n 64 p, q)

pub numbers_fit : (bytes : List ℕ) → all_fit (numbers_in bytes) ≡ true
numbers_fit [] = refl
numbers_fit (b ∷ bytes) = rw (lt-ltb (number_in b) 64 (number_small b)) (numbers_fit bytes)

-- Bytes with one tag.

module _ (t : ℕ) (small : t < 4) where
  pub run_over : (ns rest : List ℕ) → all_fit ns ≡ true → run t (map (tagged t) ns ++ rest) ≡ length ns + run t rest
  run_over [] rest f = omega arith
  run_over (n ∷ ns) rest f =
      let (h, g) = fit_head n ns f in
      let r = run_over ns rest g in
      rw (eq-eqb (tag_in (tagged t n)) t (tag_is t n small h)) (omega arith)

  pub run_none : (u n : ℕ) (rest : List ℕ) → u < 4 → n < 64 → (u ≡ t → ⊥) → run t (tagged u n ∷ rest) ≡ 0
  run_none u n rest h k ne = rw (ne_eqb (tag_in (tagged u n)) t (λ e. ne (sym (tag_is u n h k) ∙ e)))

  pub numbers_back : (ns : List ℕ) → all_fit ns ≡ true → numbers_in (map (tagged t) ns) ≡ ns
  numbers_back [] f = refl
  numbers_back (n ∷ ns) f = let (h, g) = fit_head n ns f in rw (number_is t n h, numbers_back ns g)

  pub run_bytes : (s : List ℕ) → Bytes s → map (tagged t) (numbers_in (take (run t s) s)) ≡ take (run t s) s
  run_bytes [] b = refl
  run_bytes (x ∷ s) b = go (eqb (tag_in x) t) refl (run_bytes s b.1)
    where
      go : (v : Bool) → eqb (tag_in x) t ≡ v → map (tagged t) (numbers_in (take (run t s) s)) ≡ take (run t s) s → map (tagged t) (numbers_in (take (run t (x ∷ s)) (x ∷ s))) ≡ take (run t (x ∷ s)) (x ∷ s)
      go true e more = let z = eqb-true (tag_in x) t e in let w = tag_back x b.0 in let v : tagged t (number_in x) ≡ x = rw (← z) w in rw (e, v, more)
      go false e more = rw e

  pub run_ends : (s : List ℕ) → run t (drop (run t s) s) ≡ 0
  run_ends [] = refl
  run_ends (x ∷ s) = go (eqb (tag_in x) t) refl (run_ends s)
    where
      go : (v : Bool) → eqb (tag_in x) t ≡ v → run t (drop (run t s) s) ≡ 0 → run t (drop (run t (x ∷ s)) (x ∷ s)) ≡ 0
      go true e more = rw e more
      go false e more = rw (e, e)

  -- whether it goes on is the first byte's alone
  pub run_first : (x : ℕ) (s u : List ℕ) → run t (x ∷ s) ≡ 0 → run t (x ∷ u) ≡ 0
  run_first x s u e = go (eqb (tag_in x) t) e
    where
      go : (v : Bool) → (if v then suc (run t s) else 0) ≡ 0 → (if v then suc (run t u) else 0) ≡ 0
      go true e = absurd (omega arith)
      go false e = refl

pub slice_take : (f k : ℕ) (s : List ℕ) → slice f (f + k) s ≡ take k (drop f s)
slice_take zero k s = let z : 0 + k ≡ k = omega arith in rw z
slice_take (suc f) k [] = let z : suc f + k ≡ suc (f + k) = omega arith in rw z (sym (take-nil k))
slice_take (suc f) k (x ∷ s) = let z : suc f + k ≡ suc (f + k) = omega arith in rw z (slice_take f k s)

-- What begins at a position, by its first byte.
pub data Start (list : List ℕ) (p : ℕ) : Option Owner → Type 0 where
  standard : byte p list ≡ standard_start → Start list p (Some Standard)
  own : byte p list ≡ own_start → Start list p (Some (Vendor (little (byte (p + 2) list ∷ byte (p + 3) list ∷ byte (p + 4) list ∷ []))))
  neither : (byte p list ≡ standard_start → ⊥) → (byte p list ≡ own_start → ⊥) → Start list p None

module _ (list : List ℕ) (p : ℕ) where
  pub start : Start list p (owner_at list p)
  start = go (eqb (byte p list) standard_start) (eqb (byte p list) own_start) refl refl
    where
      go : (x y : Bool) → eqb (byte p list) standard_start ≡ x → eqb (byte p list) own_start ≡ y
          → Start list p (if x then Some Standard else if y then Some (Vendor (little (byte (p + 2) list ∷ byte (p + 3) list ∷ byte (p + 4) list ∷ []))) else None)
      go true y e f = standard (eqb-true _ _ e)
      go false true e f = own (eqb-true _ _ f)
      go false false e f = neither (eqb-false _ _ e) (eqb-false _ _ f)

  pub started : {o : Option Owner} → owner_at list p ≡ o → Start list p o
  started e = rw (← e) start

  pub next : p < length list → drop p list ≡ byte p list ∷ drop (p + 1) list
  next h = let z : suc p ≡ p + 1 = omega arith in rw (← z) (drop-cons list p 0 h)

-- From the list to the record.

module _ (list : List ℕ) (b : Bytes list) where
  vendor_bytes_lem : (p : ℕ) → Bytes (byte (p + 2) list ∷ byte (p + 3) list ∷ byte (p + 4) list ∷ [])
  vendor_bytes_lem p = (a_byte list b (p + 2), (a_byte list b (p + 3), (a_byte list b (p + 4), tt)))

  pub start_bytes_lem : (p : ℕ) (owner : Owner) → Start list p (Some owner) → p + start_length owner < length list
      → drop p list ≡ start_bytes owner (byte (p + 1) list) ++ drop (p + start_length owner) list
  start_bytes_lem p owner (standard e) h =
      let z : p + 1 + 1 ≡ p + 2 = omega arith in
      rw (next list p (omega arith), next list (p + 1) (omega arith), e, z)
  start_bytes_lem p owner (own e) h =
      let two : p + 1 + 1 ≡ p + 2 = omega arith in
      let three : p + 2 + 1 ≡ p + 3 = omega arith in
      let four : p + 3 + 1 ≡ p + 4 = omega arith in
      let five : p + 4 + 1 ≡ p + 5 = omega arith in
      let v = bytes_back (byte (p + 2) list ∷ byte (p + 3) list ∷ byte (p + 4) list ∷ []) (vendor_bytes_lem p) in
      rw (next list p (omega arith), next list (p + 1) (omega arith), two, next list (p + 2) (omega arith), three, next list (p + 3) (omega arith), four, next list (p + 4) (omega arith), five, e) (ap (λ (x : List ℕ). own_start ∷ byte (p + 1) list ∷ (x ++ drop (p + 5) list)) (sym v))

  pub owner_fits_lem : (p : ℕ) (owner : Owner) → Start list p (Some owner) → owner_fits owner ≡ true
  owner_fits_lem p owner (standard e) = refl
  owner_fits_lem p owner (own e) = lt-ltb _ _ (number_fits (byte (p + 2) list ∷ byte (p + 3) list ∷ byte (p + 4) list ∷ []) (vendor_bytes_lem p))

  part_bytes : (t q : ℕ) → t < 4 → drop q list ≡ map (tagged t) (numbers_in (slice q (reach t list q) list)) ++ drop (reach t list q) list
  part_bytes t q small =
      let s = drop q list in
      rw (slice_take q (run t s) list, run_bytes t small s (bytes_drop q list b), ← drop-drop (run t s) q list) (sym (take-append-drop (run t s) s))

  algorithm_bytes_lem : (owner : Owner) (number at : ℕ) → at < length list → tag_in (byte at list) ≡ authentication_tag
      → let s = suite_in list (record_with list owner number at) in drop at list ≡ algorithm_bytes s.authentication s.integrity s.confidentiality ++ drop (record_with list owner number at).end list
  algorithm_bytes_lem owner number at h e =
      let q = reach integrity_tag list (at + 1) in
      let i = map (tagged integrity_tag) (numbers_in (slice (at + 1) q list)) in
      let c = map (tagged confidentiality_tag) (numbers_in (slice q (reach confidentiality_tag list q) list)) in
      let z = tag_back (byte at list) (a_byte list b at) in
      let a : byte at list ≡ tagged authentication_tag (number_in (byte at list)) = sym (rw e at z) in
      joined i c (drop (reach confidentiality_tag list q) list) (next list at h) a (part_bytes integrity_tag (at + 1) (omega arith)) (part_bytes confidentiality_tag q (omega arith))
    where
      joined : (i c v : List ℕ) {s t u : List ℕ} {x y : ℕ} → s ≡ x ∷ t → x ≡ y → t ≡ i ++ u → u ≡ c ++ v → s ≡ (y ∷ (i ++ c)) ++ v
      joined i c v {x = x} {y = y} p q r w = rw (p, q, r, w) (ap (λ (l : List ℕ). y ∷ l) (sym (append_assoc i c v)))

  -- what a record that was read is in its list
  pub record Is (p : ℕ) (r : TaggedRecord) : Type 0 where
    pub bytes : drop p list ≡ suite_bytes (suite_in list r) ++ drop r.end list
    pub fit : fits (suite_in list r) ≡ true
    pub longer : p + 3 ≤ r.end
    pub inside : r.end ≤ length list
    pub confidentiality_ends : run confidentiality_tag (drop r.end list) ≡ 0
    pub integrity_ends : run integrity_tag (map (tagged confidentiality_tag) (suite_in list r).confidentiality ++ drop r.end list) ≡ 0

  pub with_is : (p : ℕ) (owner : Owner) → Start list p (Some owner) → p + start_length owner < length list → tag_in (byte (p + start_length owner) list) ≡ authentication_tag
      → Is p (record_with list owner (byte (p + 1) list) (p + start_length owner))
  with_is p owner s h e =
      let at = p + start_length owner in
      let r = record_with list owner (byte (p + 1) list) at in
      let i = drop (at + 1) list in
      let k = run integrity_tag i in
      let c = drop (at + 1 + k) list in
      let m = run confidentiality_tag c in
      let long : 2 ≤ start_length owner = two owner in
      let in-i = reach_within integrity_tag list (at + 1) (omega arith) in
      let in_c = reach_within confidentiality_tag list (at + 1 + k) in-i.1 in
      let z = run_ends confidentiality_tag (omega arith) c in
      let y = run_ends integrity_tag (omega arith) i in
      let w = part_bytes confidentiality_tag (at + 1 + k) (omega arith) in
      record {
        bytes = start_bytes_lem p owner s h ∙ ap (λ x. start_bytes owner (byte (p + 1) list) ++ x) (algorithm_bytes_lem owner (byte (p + 1) list) at h e) ∙ sym (append_assoc (start_bytes owner (byte (p + 1) list)) (algorithm_bytes (suite_in list r).authentication (suite_in list r).integrity (suite_in list r).confidentiality) (drop r.end list));
        fit = rw (owner_fits_lem p owner s, lt-ltb _ _ (number_small (byte at list)), numbers_fit (slice r.integrity r.confidentiality list), numbers_fit (slice r.confidentiality r.end list));
        longer = omega arith;
        inside = omega arith;
        confidentiality_ends = rw drop-drop at z;
        integrity_ends = rw (← w, ← drop-drop k (at + 1) list) y;
      }
    where
      two : (owner : Owner) → 2 ≤ start_length owner
      two Standard = omega arith
      two (Vendor v) = omega arith

  pub record_is : (p : ℕ) (r : TaggedRecord) → record_at list p ≡ accepted r → Is p r
  record_is p r e = go (record_at list p) (view list p) e
    where
      go : (x : Outcome TaggedRecord) → View list p x → x ≡ accepted r → Is p r
      go x (whole owner w h t) e = let z : record_with list owner (byte (p + 1) list) (p + start_length owner) ≡ r = cc in rw (← z) (with_is p owner (started list p w) h t)
      go x (unowned w) e = absurd (apart e)
      go x (short owner w h) e = absurd (apart e)
      go x (untagged owner w h t) e = absurd (apart e)

-- From the record to the list.

-- the last two conditions say that the record ends where its bytes do
pub record Back (list : List ℕ) (p : ℕ) (s : Suite) (rest : List ℕ) (r : TaggedRecord) : Type 0 where
  pub reads : record_at list p ≡ accepted r
  pub says : suite_in list r ≡ s
  pub ends : drop r.end list ≡ rest
  pub longer : p < r.end

module _ (list : List ℕ) where
  -- the bytes with a tag, read back
  part_back : (t : ℕ) → t < 4 → (q : ℕ) (ns rest : List ℕ) → all_fit ns ≡ true → drop q list ≡ map (tagged t) ns ++ rest → run t rest ≡ 0
      → (reach t list q ≡ q + length ns) × (numbers_in (slice q (q + length ns) list) ≡ ns) × (drop (q + length ns) list ≡ rest)
  part_back t small q ns rest f e z =
      let k = run_over t small ns rest f in
      let l = length-map ns (tagged t) in
      let n = numbers_back t small ns f in
      let u : run t (map (tagged t) ns ++ rest) ≡ length ns = omega arith in (
        rw (e, u),
        rw (slice_take q (length ns) list, e, take_at (map (tagged t) ns) rest (length ns) l) n,
        rw (← drop-drop (length ns) q list, e) (drop_at (map (tagged t) ns) rest (length ns) l),
      )

  pub at_place : (p k : ℕ) → byte (p + k) list ≡ byte k (drop p list)
  at_place p k = sym (get_or-drop p list k 0)

  pub start_back : (p : ℕ) (owner : Owner) (n : ℕ) (rest : List ℕ) → owner_fits owner ≡ true → drop p list ≡ start_bytes owner n ++ rest
      → (owner_at list p ≡ Some owner) × (byte (p + 1) list ≡ n) × (drop (p + start_length owner) list ≡ rest)
  start_back p Standard n rest f e =
      let z : p + 0 ≡ p = omega arith in
      let first : byte p list ≡ standard_start = rw z at (at_place p 0 ∙ ap (byte 0) e) in
      (rw first, at_place p 1 ∙ ap (byte 1) e, sym (drop-drop 2 p list) ∙ ap (drop 2) e)
  start_back p (Vendor v) n rest f e =
      let z : p + 0 ≡ p = omega arith in
      let first : byte p list ≡ own_start = rw z at (at_place p 0 ∙ ap (byte 0) e) in
      let low : byte (p + 2) list ≡ v % 256 = at_place p 2 ∙ ap (byte 2) e in
      let middle : byte (p + 3) list ≡ v / 256 % 256 = at_place p 3 ∙ ap (byte 3) e in
      let high : byte (p + 4) list ≡ v / 256 / 256 % 256 = at_place p 4 ∙ ap (byte 4) e in
      (rw (first, low, middle, high) (ap (λ (x : ℕ). Some (Vendor x)) (number_back 3 v (ltb-true v (256 ^ 3) f))), at_place p 1 ∙ ap (byte 1) e, sym (drop-drop 5 p list) ∙ ap (drop 5) e)

  body_back : (p at : ℕ) (owner : Owner) (n a : ℕ) (i c rest : List ℕ) → fits (suite_from owner n a i c) ≡ true → run confidentiality_tag rest ≡ 0
      → run integrity_tag (map (tagged confidentiality_tag) c ++ rest) ≡ 0 → p ≤ at → drop at list ≡ algorithm_bytes a i c ++ rest
      → (r : TaggedRecord) × (body_at list owner n at ≡ accepted r) × (suite_in list r ≡ suite_from owner n a i c) × (drop r.end list ≡ rest) × (p < r.end)
  body_back p at owner n a i c rest f stop stop-i l e =
      let (f0, f1) = both_true (owner_fits owner) _ f in
      let (f2, f3) = both_true (ltb a 64) _ f1 in
      let (f4, f5) = both_true (all_fit i) _ f3 in
      let small = ltb-true a 64 f2 in
      let z : at + 0 ≡ at = omega arith in
      let first : byte at list ≡ tagged authentication_tag a = rw z at (at_place at 0 ∙ ap (byte 0) e) in
      let long = length-drop at list in
      let e' = ap length e in
      let there : at < length list = omega arith in
      let behind : drop (at + 1) list ≡ map (tagged integrity_tag) i ++ (map (tagged confidentiality_tag) c ++ rest) = sym (drop-drop 1 at list) ∙ ap (drop 1) e ∙ append_assoc (map (tagged integrity_tag) i) (map (tagged confidentiality_tag) c) rest in
      let (p1, p2, p3) = part_back integrity_tag (omega arith) (at + 1) i (map (tagged confidentiality_tag) c ++ rest) f4 behind stop-i in
      let (q1, q2, q3) = part_back confidentiality_tag (omega arith) (at + 1 + length i) c rest f5 p3 stop in
      let tag : tag_in (tagged authentication_tag a) ≡ authentication_tag = tag_is authentication_tag a (omega arith) small in
      let num : number_in (tagged authentication_tag a) ≡ a = number_is authentication_tag a small in (
        record { owner = owner; number = n; authentication = a; integrity = at + 1; confidentiality = at + 1 + length i; end = at + 1 + length i + length c },
        rw (lt-ltb at (length list) there, first, eq-eqb _ _ tag, p1, q1, num),
        rw (p2, q2),
        q3,
        omega arith,
      )

  -- the bytes of a record whose end shows are read as that record
  pub record_back : (p : ℕ) (s : Suite) (rest : List ℕ) → drop p list ≡ suite_bytes s ++ rest → fits s ≡ true → run confidentiality_tag rest ≡ 0
      → run integrity_tag (map (tagged confidentiality_tag) s.confidentiality ++ rest) ≡ 0 → (r : TaggedRecord) × Back list p s rest r
  record_back p s rest e f stop stop-i =
      let all = algorithm_bytes s.authentication s.integrity s.confidentiality in
      let (o, n, d) = start_back p s.owner s.number (all ++ rest) (both_true (owner_fits s.owner) _ f).0 (e ∙ append_assoc (start_bytes s.owner s.number) all rest) in
      let (r, x, y, z, l) = body_back p (p + start_length s.owner) s.owner s.number s.authentication s.integrity s.confidentiality rest f stop stop-i (omega arith) d in
      (r, record { reads = rw (o, n) x; says = y; ends = z; longer = l })
