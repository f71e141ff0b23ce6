-- Laws of the reading of records: a step that has not failed, by cases; the list; the reader that holds the list.
use mathlib.Core.Path.{◌≡◌, refl, sym, ◌∙◌, ap}
use mathlib.Core.Bool.{Bool, true, false}
use mathlib.Core.List.{List, [], ◌∷◌}
use Prim.Native.Nat.{ℕ, zero, suc, ◌+◌, ◌-◌, ◌*◌, ◌≤◌, ◌<◌}
use native.Mathlib.Omega.{arith}
use borrow.Author.Tests.{ltb-true}
use lib.Dec.{eqb, ltb}
use lib.ListN.{length, get_or}
use Rattle.std.specs.Prelude.{if◌then◌else◌, is_some, Some, None}
use Rattle.base.specs.Field.{byte}
use Rattle.suites.specs.GetChannelCipherSuites.{algorithms, before, gives, moved, nothing, numbers_of, record_start, step_after, step_at, step_number, step_of, step_suite, suite, suite_of, suites, up_to}
use Rattle.suites.specs.declared.get_channel_cipher_suites.CipherSuite.{CipherSuite}
use Rattle.suites.specs.declared.get_channel_cipher_suites.Iter.{Iter}
use Rattle.suites.specs.declared.get_channel_cipher_suites.Step.{Step}

-- it takes a record's five bytes and gives the suite of the second, or it gives nothing
pub data View (list : List ℕ) (p : ℕ) : Step → Type 0 where
  taken : p + 5 ≤ length list → View list p (gives (suite (byte (p + 1) list)) (p + 5))
  ended : (q : ℕ) (failed : Bool) → View list p (nothing q failed)

module _ (list : List ℕ) (p : ℕ) where
  view_whole : (s : CipherSuite) → suite (byte (p + 1) list) ≡ s → (b : Bool) → ltb (p + 1 + algorithms) (length list) ≡ b
      → View list p (if b then gives s (p + 1 + algorithms + 1) else nothing (length list) false)
  view_whole s e true h =
      let l : p + 1 + algorithms < length list = ltb-true _ _ h in
      let q : p + 1 + algorithms + 1 ≡ p + 5 = omega arith in
      rw (← e, q) (taken (omega arith))
  view_whole s e false h = ended (length list) false

  view_known : (b : Bool) → View list p (step_suite list (p + 1) (if b then Some (suite (byte (p + 1) list)) else None))
  view_known true = view_whole (suite (byte (p + 1) list)) refl (ltb (p + 1 + algorithms) (length list)) refl
  view_known false = ended (p + 1 + 1) false

  view_number : (b : Bool) → View list p (if b then step_suite list (p + 1) (suite_of (byte (p + 1) list)) else nothing (p + 1) false)
  view_number true = view_known (ltb (byte (p + 1) list) (length suites))
  view_number false = ended (p + 1) false

  view_start : (b : Bool) → View list p (if b then step_number list (p + 1) else nothing (p + 1) true)
  view_start true = view_number (ltb (p + 1) (length list))
  view_start false = ended (p + 1) true

  view_left : (b : Bool) → View list p (if b then (if eqb (byte p list) record_start then step_number list (p + 1) else nothing (p + 1) true) else nothing p false)
  view_left true = view_start (eqb (byte p list) record_start)
  view_left false = ended p false

  pub view : View list p (step_at list p false)
  view = view_left (ltb p (length list))

-- what is left of the list at a place
abbrev pub rest : List ℕ → ℕ → List ℕ
rest list p = up_to (length list - p) list p false

no_suite : {A : Type 0} → false ≡ true → A
no_suite e = let z : ◌≡◌ {A = ℕ} 0 1 = cc in absurd (omega arith)

module _ (list : List ℕ) where
  pub rest_all : rest list 0 ≡ numbers_of list
  rest_all = let z : length list - 0 ≡ length list = omega arith in rw z

  -- steps beyond the bytes that are left add nothing
  pub enough : (k j p : ℕ) → length list ≤ p + k → length list ≤ p + j → up_to k list p false ≡ up_to j list p false
  unfolding up_to
  enough zero zero p h i = refl
  enough zero (suc j) p h i = sym (go (step_at list p false) (view list p))
    where
      go : (s : Step) → View list p s → before s.answer (up_to j list s.position s.failed) ≡ []
      go s (taken l) = absurd (omega arith)
      go s (ended q f) = refl
  enough (suc k) zero p h i = go (step_at list p false) (view list p)
    where
      go : (s : Step) → View list p s → before s.answer (up_to k list s.position s.failed) ≡ []
      go s (taken l) = absurd (omega arith)
      go s (ended q f) = refl
  enough (suc k) (suc j) p h i = go (step_at list p false) (view list p) (enough k j (p + 5) (omega arith) (omega arith))
    where
      go : (s : Step) → View list p s → up_to k list (p + 5) false ≡ up_to j list (p + 5) false → before s.answer (up_to k list s.position s.failed) ≡ before s.answer (up_to j list s.position s.failed)
      go s (taken l) e = ap (λ (x : List ℕ). byte (p + 1) list ∷ x) e
      go s (ended q f) e = refl

  module _ (p : ℕ) where
    -- a step that gives a suite
    pub on : is_some (step_at list p false).answer ≡ true → (p + 5 ≤ length list) × (length (rest list p) ≡ suc (length (rest list (p + 5))))
    unfolding up_to
    on e = go (step_at list p false) (view list p) e refl
      where
        more : (k : ℕ) → k ≡ length list - p → p + 5 ≤ length list → step_at list p false ≡ gives (suite (byte (p + 1) list)) (p + 5) → length (up_to k list p false) ≡ suc (length (rest list (p + 5)))
        more zero z l q = absurd (omega arith)
        more (suc k) z l q = rw q (ap (λ (x : List ℕ). suc (length x)) (enough k (length list - (p + 5)) (p + 5) (omega arith) (omega arith)))

        go : (s : Step) → View list p s → is_some s.answer ≡ true → step_at list p false ≡ s → (p + 5 ≤ length list) × (length (rest list p) ≡ suc (length (rest list (p + 5))))
        go s (taken l) e q = (l, more (length list - p) refl l q)
        go s (ended x f) e q = no_suite e

    -- and one that gives none
    pub off : is_some (step_at list p false).answer ≡ false → (k : ℕ) → up_to k list p false ≡ []
    unfolding up_to
    off e zero = refl
    off e (suc k) = go (step_at list p false) (view list p) e
      where
        go : (s : Step) → View list p s → is_some s.answer ≡ false → before s.answer (up_to k list s.position s.failed) ≡ []
        go s (taken l) e = no_suite (sym e)
        go s (ended q f) e = refl

  -- the number of the i-th suite is the second byte of the i-th record
  pub record_at_lem : (k p i : ℕ) → i < length (up_to k list p false) → (p + 5 * i + 5 ≤ length list) × (get_or (up_to k list p false) i 0 ≡ byte (p + 5 * i + 1) list)
  unfolding up_to
  record_at_lem zero p i h = absurd (omega arith)
  record_at_lem (suc k) p i h = go (step_at list p false) (view list p) i h (λ j. record_at_lem k (p + 5) j)
    where
      go : (s : Step) → View list p s → (i : ℕ) → i < length (before s.answer (up_to k list s.position s.failed))
          → ((j : ℕ) → j < length (up_to k list (p + 5) false) → (p + 5 + 5 * j + 5 ≤ length list) × (get_or (up_to k list (p + 5) false) j 0 ≡ byte (p + 5 + 5 * j + 1) list))
          → (p + 5 * i + 5 ≤ length list) × (get_or (before s.answer (up_to k list s.position s.failed)) i 0 ≡ byte (p + 5 * i + 1) list)
      go s (taken l) zero h more = let q : p + 5 * 0 + 1 ≡ p + 1 = omega arith in (omega arith, rw q)
      go s (taken l) (suc i) h more =
          let (le, e) = more i (omega arith) in
          let q : p + 5 * suc i + 1 ≡ p + 5 + 5 * i + 1 = omega arith in
          (omega arith, rw q e)
      go s (ended q f) i h more = absurd (omega arith)

  pub numbered_at : (i : ℕ) → i < length (numbers_of list) → (5 * i + 5 ≤ length list) × (get_or (numbers_of list) i 0 ≡ byte (5 * i + 1) list)
  numbered_at i h = let e : 0 + 5 * i + 1 ≡ 5 * i + 1 = omega arith in let (l, q) = record_at_lem (length list) 0 i h in (omega arith, rw e at q)

  -- a suite takes five bytes
  pub five_each : 5 * length (numbers_of list) ≤ length list
  five_each = go (length (numbers_of list)) refl
    where
      go : (k : ℕ) → length (numbers_of list) ≡ k → 5 * length (numbers_of list) ≤ length list
      go zero e = omega arith
      go (suc k) e = let (l, q) = numbered_at k (omega arith) in omega arith

  follow : (k p : ℕ) {s : Step} → step_at list p false ≡ s → (step_after (suc k) list p false).answer ≡ (step_after k list s.position s.failed).answer
  unfolding step_after
  follow k p e = ap (λ (s : Step). (step_after k list s.position s.failed).answer) e

  -- "The list of a byte string is the suites up to the first step that gives nothing": each step before that gives the
  -- suite that stands at its place in the list, and the next one nothing.
  listed : (k p i : ℕ) → i < length (up_to k list p false) → (step_after i list p false).answer ≡ Some (suite (get_or (up_to k list p false) i 0))
  unfolding up_to step_after
  listed zero p i h = absurd (omega arith)
  listed (suc k) p i h = go (step_at list p false) (view list p) i h refl (λ j. listed k (p + 5) j)
    where
      go : (s : Step) → View list p s → (i : ℕ) → i < length (before s.answer (up_to k list s.position s.failed)) → step_at list p false ≡ s
          → ((j : ℕ) → j < length (up_to k list (p + 5) false) → (step_after j list (p + 5) false).answer ≡ Some (suite (get_or (up_to k list (p + 5) false) j 0)))
          → (step_after i list p false).answer ≡ Some (suite (get_or (before s.answer (up_to k list s.position s.failed)) i 0))
      go s (taken l) zero h e more = rw e
      go s (taken l) (suc i) h e more = follow i p e ∙ more i (omega arith)
      go s (ended q f) i h e more = absurd (omega arith)

  ends : (k p : ℕ) → length list ≤ p + k → (step_after (length (up_to k list p false)) list p false).answer ≡ None
  unfolding up_to step_after
  ends zero p h = go (step_at list p false) (view list p)
    where
      go : (s : Step) → View list p s → s.answer ≡ None
      go s (taken l) = absurd (omega arith)
      go s (ended q f) = refl
  ends (suc k) p h = go (step_at list p false) (view list p) refl (ends k (p + 5) (omega arith))
    where
      go : (s : Step) → View list p s → step_at list p false ≡ s → (step_after (length (up_to k list (p + 5) false)) list (p + 5) false).answer ≡ None
          → (step_after (length (before s.answer (up_to k list s.position s.failed))) list p false).answer ≡ None
      go s (taken l) e more = follow (length (up_to k list (p + 5) false)) p e ∙ more
      go s (ended q f) e more = rw e

  pub list_is : ((i : ℕ) → i < length (numbers_of list) → (step_after i list 0 false).answer ≡ Some (suite (get_or (numbers_of list) i 0)))
      × ((step_after (length (numbers_of list)) list 0 false).answer ≡ None)
  list_is = (listed (length list) 0, ends (length list) 0 (omega arith))

  -- ".. and every later step takes and gives nothing"
  pub failed_for_good : (k p : ℕ) → step_after k list p true ≡ nothing p true
  unfolding step_after
  failed_for_good zero p = refl
  failed_for_good (suc k) p = failed_for_good k p

-- The reader that holds the list steps as the plain form does.

unfoldable pub reader_after : ℕ → Iter → Iter
reader_after zero reader = reader
reader_after (suc k) reader = reader_after k (moved reader (step_of reader))

pub reader_steps : (k : ℕ) (reader : Iter) → step_of (reader_after k reader) ≡ step_after k reader.list.now reader.position reader.failed
unfolding reader_after step_after
reader_steps zero reader = refl
reader_steps (suc k) reader = reader_steps k (moved reader (step_of reader))
