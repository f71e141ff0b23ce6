-- Laws of the request and of the table of suites.
use mathlib.Core.Logic.{◌↔◌}
use mathlib.Core.Path.{◌≡◌, refl, sym, ◌∙◌, ap}
use mathlib.Core.Bool.{Bool, true, false}
use mathlib.Core.List.{List, [], ◌∷◌, map}
use Prim.Native.Nat.{ℕ, zero, suc, ◌+◌, ◌-◌, ◌≤◌, ◌<◌}
use native.Mathlib.Numerals.{add-one}
use native.Mathlib.Omega.{arith}
use borrow.Author.Tests.{eq-eqb, ne_eqb, eqb-true, ltb-true, ltb-false, lt-ltb, le-ltb}
use lib.Dec.{eqb, lit<, ltb}
use lib.ListN.{length, get_or, take, drop, replicate, length-take, length-drop, take-append-drop, drop_of_length-le, get_or-eq_default}
use lib.Seq.{drop-cons, drop-append_seam, take-append_seam}
use Rattle.std.specs.Prelude.{bit_or, bit_xor, if◌then◌else◌, ◌&&◌, Option, Some, None}
use Rattle.base.specs.Connection.{channel_of, channel_field}
use Rattle.base.specs.Field.{Bytes, byte, within}
use Rattle.base.specs.Named.{named}
use Rattle.base.specs.Outcome.{accepted, refused, ◌>>=◌}
use Rattle.base.specs.declared.connection.Channel.{Channel}
use Rattle.base.proofs.Outcome.{apart, otherwise, when, Only, steps, only_steps, only_else, only_refused, inside, ranged, only_ranged}
use Rattle.base.proofs.Rows.{NoForm, nine, Strict, strict}
use Rattle.base.proofs.connection.Laws.{channel_iff, channel_small, begins_only}
use Rattle.base.proofs.field.Laws.{below, so_long, up_to}
use Rattle.base.proofs.little.Laws.{a_byte, are_bytes, bytes_take}
use Rattle.auth.specs.Algorithms as Algorithms
use Rattle.suites.specs.GetChannelCipherSuites.{Typed, authentication_of, column, command, command_bytes, command_of, command_on, confidentiality_of, find, integrity_of, part, row, row_of, same, suite, suite_for, suite_of, suites, suites_bytes, zeros, part_of}
use Rattle.collector.specs.Collector.{last_index, part_length}
use Rattle.suites.specs.declared.get_channel_cipher_suites.ChannelCipherSuites.{ChannelCipherSuites}
use Rattle.suites.specs.declared.get_channel_cipher_suites.CipherSuite.{CipherSuite}
use Rattle.suites.specs.declared.get_channel_cipher_suites.ListCommand.{ListCommand}
use Rattle.suites.specs.declared.get_channel_cipher_suites.Row.{Row}

-- The request.

-- what a bit has to be that stands above the index in one byte
pub record Above (bit : ℕ) : Type 0 where
  pub small : (i : ℕ) → i ≤ last_index → bit_or bit i < 256
  pub back : (i : ℕ) → i ≤ last_index → bit_xor bit (bit_or bit i) ≡ i
  pub forth : (n : ℕ) → n < 256 → bit_xor bit n ≤ last_index → bit_or bit (bit_xor bit n) ≡ n

-- by computed tests of the 64 indexes and of the 256 bytes
pub above : (bit : ℕ) → up_to 64 (λ i. ltb (bit_or bit i) 256) ≡ up_to 64 (λ i. true) → up_to 64 (λ i. bit_xor bit (bit_or bit i)) ≡ up_to 64 (λ i. i)
    → up_to 256 (λ n. if ltb last_index (bit_xor bit n) then n else bit_or bit (bit_xor bit n)) ≡ up_to 256 (λ n. n) → Above bit
above bit p q r = record {
  small = λ i h. ltb-true (bit_or bit i) 256 (below 64 (λ i. ltb (bit_or bit i) 256) (λ i. true) p i (omega arith));
  back = λ i h. below 64 (λ i. bit_xor bit (bit_or bit i)) (λ i. i) q i (omega arith);
  forth = λ n h l. rw (le-ltb last_index (bit_xor bit n) l) at (below 256 (λ n. if ltb last_index (bit_xor bit n) then n else bit_or bit (bit_xor bit n)) (λ n. n) r n h);
}

module _ (bit : ℕ) where
  on_index : (c : Channel) (i : ℕ) {k : ListCommand bit} → command_on bit c i ≡ accepted k → (i ≤ last_index) × (command bit c i ≡ k)
  on_index c i e = let (p, f) = otherwise 7 (ltb last_index i) e in (ltb-false last_index i p, cc)

  -- Row 10: exactly what some command writes is read, and every other string of bytes is refused 10.
  pub command_strict : Above bit → Strict (command_of bit) (λ k s. command_bytes bit k ≡ accepted s)
  command_strict h =
      strict 3 (λ s. channel_of (byte 0 s) >>= λ c. within 0 0 (byte 1 s) >>= λ payload. command_on bit c (bit_xor bit (byte 2 s))) _
      (λ s k b l e. let (c, ec, f) = steps (channel_of (byte 0 s)) _ e in
      let (p, ep, g) = steps (within 0 0 (byte 1 s)) (λ payload. command_on bit c (bit_xor bit (byte 2 s))) f in
      let i = bit_xor bit (byte 2 s) in
      let (small, z) = on_index c i g in
      let none = (ranged (byte 1 s) 0 0 (byte 1 s) 9 {b = p} ep).1 in
      let zero : byte 1 s ≡ 0 = omega arith in
      let same = h.forth (byte 2 s) (a_byte s b 2) small in
      rw (← z, (channel_iff (byte 0 s) c).0 ec, inside i 0 last_index i 9 (omega arith) small, same) (ap accepted (rw zero at (so_long s 3 l))))
      λ s k e. let (n, en, f) = steps (channel_field k.channel) _ e in
      let (i, ei, g) = steps (within 0 last_index k.list_index) _ f in
      let (_, small, same) = ranged k.list_index 0 last_index k.list_index 9 {b = i} ei in
      let z : ◌≡◌ {A = List ℕ} (n ∷ 0 ∷ bit_or bit i ∷ []) s = cc in
      let low = channel_small k.channel n en in
      rw (← z, ← same) ((omega arith, (lit< tt, (h.small k.list_index small, tt))), refl {a = 3}, rw ((channel_iff n k.channel).1 en, h.back k.list_index small, le-ltb last_index k.list_index small))

  -- Refusal 9: ".. or a command whose channel no number makes or whose index is above 0x3F", exactly then.
  pub command_no_form : (k : ListCommand bit) → command_bytes bit k ≡ refused 9 [] ↔ ((n : ℕ) → channel_of n ≡ accepted k.channel → k.list_index ≤ last_index → ⊥)
  command_no_form k = (
    (λ e n h small. apart (sym (rw ((channel_iff n k.channel).0 h, inside k.list_index 0 last_index k.list_index 9 (omega arith) small) at e))),
    λ none. only_refused 9 (command_bytes bit k) (begins_only k.channel _ λ n. only_steps 9 (within 0 last_index k.list_index) _ (only_ranged k.list_index 0 last_index k.list_index 9) λ i. refl)
        λ s e. let (n, f, e1) = steps (channel_field k.channel) _ e in let (i, g, e2) = steps (within 0 last_index k.list_index) _ e1 in none n ((channel_iff n k.channel).1 f) (ranged k.list_index 0 last_index k.list_index 9 g).1,
  )

-- the crate's
pub crates_strict : Strict (command_of 0) (λ k s. command_bytes 0 k ≡ accepted s)
crates_strict = command_strict 0 (above 0 refl refl refl)

-- The response.

module _ (s : List ℕ) (i : ℕ) where
  pub zeros_stop : i < length s → (get_or s i 0 ≡ 0 → ⊥) → zeros (drop i s) ≡ false
  unfolding zeros
  zeros_stop h ne = rw (drop-cons s i 0 h, ne_eqb (get_or s i 0) 0 ne)

  pub zeros_on : i < length s → get_or s i 0 ≡ 0 → zeros (drop i s) ≡ zeros (drop (i + 1) s)
  unfolding zeros
  zeros_on h z = rw (drop-cons s i 0 h, eq-eqb (get_or s i 0) 0 z, add-one)

  pub zeros_end : length s ≤ i → zeros (drop i s) ≡ true
  unfolding zeros
  zeros_end h = rw (drop_of_length-le s h)

pub all_zero : (t : List ℕ) → zeros t ≡ true → t ≡ replicate (length t) 0
unfolding zeros
all_zero [] e = refl
all_zero (x ∷ t) e = go (eqb x 0) refl e (all_zero t)
  where
    go : (b : Bool) → eqb x 0 ≡ b → b && zeros t ≡ true → (zeros t ≡ true → t ≡ replicate (length t) 0) → x ∷ t ≡ replicate (suc (length t)) 0
    go true p e rest = let z = eqb-true x 0 p in let r = rest e in cc
    go false p e rest = let z : ◌≡◌ {A = ℕ} 0 1 = cc in absurd (omega arith)

pub zeros_are : (n : ℕ) → zeros (replicate n 0) ≡ true
unfolding zeros
zeros_are zero = refl
zeros_are (suc n) = zeros_are n

-- The reader gives back what the writer wrote, a string of bytes.
pub suites_back : (c : ChannelCipherSuites) (s : List ℕ) → Typed c → suites_bytes c ≡ accepted s → Bytes s × (part_of s ≡ accepted c)
suites_back c s (l, b) e =
    let n = c.data_length in
    let d = c.record_data in
    let (p, f) = otherwise 9 (ltb part_length c.data_length) e in
    let (q, g) = when 9 (zeros (drop c.data_length c.record_data)) f in
    let z : take n d ≡ s = cc in
    let h = ltb-false part_length n p in
    let long : length (take n d) ≡ n = rw length-take (omega arith) in
    let rest : drop n d ≡ replicate (16 - n) 0 = all_zero (drop n d) q ∙ rw (length-drop, l) in
    rw (← z) (bytes_take n d (are_bytes d b), rw (long, p, ← rest, take-append-drop n d))

-- The writer writes every record that some response gives: the response itself.
pub suites_given : (s : List ℕ) (c : ChannelCipherSuites) → part_of s ≡ accepted c → suites_bytes c ≡ accepted s
suites_given s c e =
    let (p, f) = otherwise 2 (ltb part_length (length s)) e in
    let z : part s ≡ c = cc in
    rw (← z, p, drop-append_seam s (replicate (16 - length s) 0), zeros_are (16 - length s), take-append_seam s (replicate (16 - length s) 0))

-- Row 9: a record is refused 9 exactly where no response, a string of bytes, gives it.
pub suites_no_form : (c : ChannelCipherSuites) → Typed c → NoForm part_of suites_bytes c
suites_no_form c h = nine part_of suites_bytes c (only_else 9 (ltb part_length c.data_length) _ (go (zeros (drop c.data_length c.record_data)))) (λ s e. suites_back c s h e) (λ s _ g. (s, suites_given s c g))
  where
    go : (y : Bool) → Only 9 (if y then accepted (take c.data_length c.record_data) else refused 9 [])
    go true = refl
    go false = refl

-- Reading the table by number.

named_at : {A : Type 0} (rows : List A) (d : A) (n : ℕ) → n < length rows → named (map Some rows) n ≡ Some (get_or rows n d)
named_at [] d n h = absurd (omega arith)
named_at (x ∷ rows) d zero h = refl
named_at (x ∷ rows) d (suc n) h = named_at rows d n (omega arith)

pub row_at : (n : ℕ) → n < length suites → row_of n ≡ Some (get_or suites n (row 0 0 0))
row_at n h = named_at suites (row 0 0 0) n h

pub no_row : (n : ℕ) → length suites ≤ n → row_of n ≡ None
unfolding suites
no_row n h = get_or-eq_default (map Some suites) None h

-- Reading it by row.

module _ (rows : List Row) (i : ℕ) (r d : Row) (h : i < length rows) where
  pub missed : same (get_or rows i d) r ≡ false → find (drop i rows) i r ≡ find (drop (i + 1) rows) (i + 1) r
  missed e = rw (drop-cons rows i d h, e, add-one)

  pub hit : same (get_or rows i d) r ≡ true → find (drop i rows) i r ≡ Some (suite i)
  hit e = rw (drop-cons rows i d h, e)

one_number : (j k : ℕ) → Some (suite j) ≡ Some (suite k) → j ≡ k
one_number j k e = let z : suite j ≡ suite k = cc in ap (λ (s : CipherSuite). s.0) z

pub twenty_rows : length suites ≡ 20
unfolding suites
twenty_rows = refl

-- The table's rule, by one computed test: each row is found at its own number ..
pub found : (n : ℕ) → n < length suites → column suite_for (row_of n) ≡ Some (suite n)
unfolding suites
found = below (length suites) (λ n. column suite_for (row_of n)) (λ n. Some (suite n)) refl

-- .. so that no two rows are the same,
pub rows_differ : (j k : ℕ) → j < length suites → k < length suites → row_of j ≡ row_of k → j ≡ k
rows_differ j k hj hk e = let p = found j hj in let q = found k hk in let r = ap (column suite_for) e in one_number j k (cc)

same_row : (a b : Row) → same a b ≡ true → a ≡ b
same_row a b e = go (eqb a.authentication b.authentication) (eqb a.integrity b.integrity) (eqb a.confidentiality b.confidentiality) refl refl refl e
  where
    go : (x y z : Bool) → eqb a.authentication b.authentication ≡ x → eqb a.integrity b.integrity ≡ y → eqb a.confidentiality b.confidentiality ≡ z
        → x && (y && z) ≡ true → a ≡ b
    go true true true p q r e = alike a b (eqb-true _ _ p) (eqb-true _ _ q) (eqb-true _ _ r)
      where
        alike : (a b : Row) → a.authentication ≡ b.authentication → a.integrity ≡ b.integrity → a.confidentiality ≡ b.confidentiality → row a.authentication a.integrity a.confidentiality ≡ row b.authentication b.integrity b.confidentiality
        alike a b p q r = rw (p, q, r)
    go true true false p q r e = let z : ◌≡◌ {A = ℕ} 0 1 = cc in absurd (omega arith)
    go true false z p q r e = let z : ◌≡◌ {A = ℕ} 0 1 = cc in absurd (omega arith)
    go false y z p q r e = let z : ◌≡◌ {A = ℕ} 0 1 = cc in absurd (omega arith)

find_row : (rows : List Row) (at n : ℕ) (r : Row) → find rows at r ≡ Some (suite n) → (j : ℕ) × (n ≡ at + j) × (named (map Some rows) j ≡ Some r)
find_row [] at n r e = let z : ◌≡◌ {A = ℕ} 0 1 = cc in absurd (omega arith)
find_row (x ∷ rows) at n r e = go (same x r) refl e (λ f. find_row rows (suc at) n r f)
  where
    go : (b : Bool) → same x r ≡ b → (if b then Some (suite at) else find rows (suc at) r) ≡ Some (suite n)
        → (find rows (suc at) r ≡ Some (suite n) → (j : ℕ) × (n ≡ suc at + j) × (named (map Some rows) j ≡ Some r))
        → (j : ℕ) × (n ≡ at + j) × (named (Some x ∷ map Some rows) j ≡ Some r)
    go true p e rest = let z = one_number at n e in (0, omega arith, ap Some (same_row x r p))
    go false p e rest = let (j, f, g) = rest e in (suc j, omega arith, g)

-- and that the two lookups are each other's inverse.
pub row_iff : (n : ℕ) (r : Row) → row_of n ≡ Some r ↔ suite_for r ≡ Some (suite n)
row_iff n r = (λ e. go (ltb n (length suites)) refl e, back)
  where
    go : (b : Bool) → ltb n (length suites) ≡ b → row_of n ≡ Some r → suite_for r ≡ Some (suite n)
    go true p e = rw e at (found n (ltb-true n (length suites) p))
    go false p e = let f = no_row n (ltb-false n (length suites) p) in let z : ◌≡◌ {A = ℕ} 0 1 = cc in absurd (omega arith)

    back : suite_for r ≡ Some (suite n) → row_of n ≡ Some r
    back e = let (j, f, g) = find_row suites 0 n r e in let z : n ≡ j = omega arith in rw z g

-- a number is a suite's exactly where a row stands at it
pub suite_iff : (n : ℕ) → suite_of n ≡ Some (suite n) ↔ n < length suites
suite_iff n = (λ e. go (ltb n (length suites)) refl e, λ h. simp (lt-ltb n (length suites) h))
  where
    go : (b : Bool) → ltb n (length suites) ≡ b → (if b then Some (suite n) else None) ≡ Some (suite n) → n < length suites
    go true p e = ltb-true n (length suites) p
    go false p e = let z : ◌≡◌ {A = ℕ} 0 1 = cc in absurd (omega arith)

-- Every number of the table names an algorithm, so a suite's three are never nothing; each is its own column's.
abbrev pub known : {A : Type 0} → Option A → Bool
known None = false
known (Some a) = true

pub all_known : (n : ℕ) → n < length suites → (known (authentication_of n) ≡ true) × (known (integrity_of n) ≡ true) × (known (confidentiality_of n) ≡ true)
unfolding suites
all_known n h =
    (below (length suites) (λ n. known (authentication_of n)) (λ n. true) refl n h, below (length suites) (λ n. known (integrity_of n)) (λ n. true) refl n h, below (length suites) (λ n. known (confidentiality_of n)) (λ n. true) refl n h)

pub third_column : (n : ℕ) (r : Row) → row_of n ≡ Some r → confidentiality_of n ≡ Algorithms.confidentiality_of r.confidentiality
third_column n r e = rw e
