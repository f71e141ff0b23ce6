-- What C reads from a number is what was coded. specs/Number.antt has the macros of include/ghjalvestru.h; here they are put together as a caller does, and give back every outcome.
use mathlib.Core.Logic.{◌↔◌}
use mathlib.Core.Path.{◌≡◌, refl, sym, ◌∙◌, ap}
use mathlib.Core.Bool.{Bool, true, false, not}
use mathlib.Core.List.{List, [], ◌∷◌}
use Prim.Native.Nat.{ℕ, ◌+◌, ◌*◌, ◌/◌, ◌^◌, ◌≤◌, ◌<◌}
use native.Mathlib.Omega.{arith}
use borrow.Author.Tests.{eq-eqb, ne_eqb, le-ltb, ltb-false}
use lib.Dec.{ltb, lit<}
use lib.ListN.{length}
use Rattle.std.specs.Prelude.{if◌then◌else◌, Option, None, Some}
use Rattle.base.specs.Field.{byte}
use Rattle.base.specs.Outcome.{Outcome, accepted, refused, ◌>>=◌}
use Rattle.base.specs.Refusal.{refusal, row}
use Rattle.base.specs.Written.{length_of, written}
use Rattle.base.specs.declared.refusal.Refusal.{Refusal}
use Rattle.base.specs.declared.refusal.Refusal.TheVariants.{NotEnoughData, TooMuchData, InvalidZeroSession, InvalidAuthType, InvalidPrivilegeLevel, NoChannel, BadIndex, LongName, NoForm, NotARequest, NoRoom, Disagrees, Incomplete, BadLine, WrongChannel, BadRecord}
use Rattle.base.proofs.Outcome.{apart}
use Rattle.base.proofs.refusal.Laws.{named, named_row}
use Rattle.collector.specs.Collector.{is_complete, least_to, lowest}
use Rattle.collector.specs.declared.Status.{Status}
use Rattle.collector.specs.declared.Status.TheVariants.{Complete, Missing}
use Rattle.collector.specs.Stored.{parts_of, standing_stored, well_stored}
use Rattle.collector.specs.declared.Collector.{Collector}
use Rattle.collector.proofs.Complete.{lowest_le}
use Rattle.collector.proofs.Entries.{standing_complete, standing_missing}
use Rattle.collector.proofs.Stored.{parts_formed, told, told_within, untold}
use Rattle.capi.specs.Number.{at_most, carried_in, carried_limit, code, code_any, is_missing, is_none, is_refused, missing_bit, missing_in, or_none, refusal_in, refused_bit, standing}

unlike : false ≡ true → ⊥
unlike e = let z : ◌≡◌ {A = ℕ} 0 1 = cc in omega arith

some_not : {A : Type 0} {a : A} → accepted (Some a) ≡ accepted None → ⊥
some_not e = let z : ◌≡◌ {A = ℕ} 0 1 = cc in omega arith

-- A count, a length, the number of what there is: below 2^61 it is no refusal, not GHJ_NONE, and no status that is not complete.
module _ (n : ℕ) where
  pub count_plain : n < 2 ^ 63 → is_refused n ≡ false
  count_plain h = ap not (eq-eqb (n / 2 ^ 63) 0 (omega arith))

  pub count_some : n < 2 ^ 62 → is_none n ≡ false
  count_some h = ne_eqb n (2 ^ 62) (λ e. omega arith)

  pub count_complete : n < 2 ^ 61 → is_missing n ≡ false
  count_complete h = ne_eqb (n / 2 ^ 61) 1 (λ e. omega arith)

-- A refusal is neither, whatever its number and what it carries.
module _ (number : ℕ) (carried : List ℕ) where
  abbrev coded : ℕ
  coded = code (refused number carried)

  pub refused_told : is_refused coded ≡ true
  refused_told = ap not (ne_eqb (coded / 2 ^ 63) 0 (λ e. omega arith))

  pub refused_some : is_none coded ≡ false
  refused_some = ne_eqb coded (2 ^ 62) (λ e. omega arith)

  pub refused_complete : is_missing coded ≡ false
  refused_complete = ne_eqb (coded / 2 ^ 61) 1 (λ e. omega arith)

-- A refusal's number is read, and what it carries: whole up to the limit, else the limit.
small : (r : Refusal) → (row r).0 < 256
small = elim [ NotEnoughData ↦ lit< tt | TooMuchData ↦ lit< tt | InvalidZeroSession ↦ lit< tt | InvalidAuthType b ↦ lit< tt | InvalidPrivilegeLevel b ↦ lit< tt | NoChannel ↦ lit< tt | BadIndex ↦ lit< tt | LongName ↦ lit< tt | NoForm ↦ lit< tt | NotARequest ↦ lit< tt | NoRoom ↦ lit< tt | Disagrees ↦ lit< tt | Incomplete i ↦ lit< tt | BadLine ↦ lit< tt | WrongChannel ↦ lit< tt | BadRecord p ↦ lit< tt ]

within_limit : (n : ℕ) → at_most carried_limit n ≤ carried_limit
within_limit n = go (ltb carried_limit n) refl
  where
    go : (x : Bool) → ltb carried_limit n ≡ x → (if x then carried_limit else n) ≤ carried_limit
    go true p = omega arith
    go false p = ltb-false carried_limit n p

pub refusal_read : (r : Refusal) → (refusal_in (code (refusal r)) ≡ (row r).0) × (carried_in (code (refusal r)) ≡ at_most carried_limit (byte 0 (row r).1))
refusal_read r = packed (row r).0 (at_most carried_limit (byte 0 (row r).1)) (small r) (within_limit (byte 0 (row r).1))
  where
    packed : (number v : ℕ) → number < 256 → v ≤ carried_limit → (refusal_in (refused_bit + number + 256 * v) ≡ number) × (carried_in (refused_bit + number + 256 * v) ≡ v)
    packed number v h l = (omega arith, omega arith)

-- What a caller makes of a number: the refusal, or what was accepted.
abbrev pub outcome_in : ℕ → Outcome ℕ
outcome_in number = if is_refused number then refusal (named (refusal_in number, carried_in number ∷ [])) else accepted number

-- What is coded: a count below 2^63, or one of document 01's refusals, which carries no more than the limit.
abbrev pub Codable : Outcome ℕ → Type 0
Codable (accepted n) = n < 2 ^ 63
Codable (refused number carried) = (r : Refusal) × (row r ≡ (number, carried)) × (byte 0 carried ≤ carried_limit)

renamed : (r : Refusal) → named ((row r).0, byte 0 (row r).1 ∷ []) ≡ r
unfolding named
renamed r = named_row r

refusal_back : (r : Refusal) → byte 0 (row r).1 ≤ carried_limit → outcome_in (code (refusal r)) ≡ refusal r
refusal_back r l =
    let (number, carried) = refusal_read r in
    let whole : at_most carried_limit (byte 0 (row r).1) ≡ byte 0 (row r).1 = simp (le-ltb carried_limit (byte 0 (row r).1) l) in
    rw (refused_told (row r).0 (row r).1) (ap refusal (ap named (pair number (ap (λ x. x ∷ []) (carried ∙ whole))) ∙ renamed r))
  where
    pair : {a b : ℕ} {s t : List ℕ} → a ≡ b → s ≡ t → ◌≡◌ {A = ℕ × List ℕ} (a, s) (b, t)
    pair p q = cc

-- It is read back,
pub outcome_read : (x : Outcome ℕ) → Codable x → outcome_in (code x) ≡ x
outcome_read (accepted n) h = rw (count_plain n h)
outcome_read (refused number carried) (r, e, l) = go (row r) (refusal_back r) e l
  where
    go : (p : ℕ × List ℕ) → (byte 0 p.1 ≤ carried_limit → outcome_in (code (refused p.0 p.1)) ≡ refused p.0 p.1) → p ≡ (number, carried) → byte 0 carried ≤ carried_limit
        → outcome_in (code (refused number carried)) ≡ refused number carried
    go p back e l = (rw e at back) l

-- so no two outcomes have one number.
pub code_one : (x y : Outcome ℕ) → Codable x → Codable y → code x ≡ code y → x ≡ y
code_one x y p q e = sym (outcome_read x p) ∙ ap outcome_in e ∙ outcome_read y q

-- Where there may be none: GHJ_NONE is given exactly then.
pub none_read : {A : Type 0} (number : A → ℕ) (x : Outcome (Option A)) → ((a : A) → x ≡ accepted (Some a) → number a < 2 ^ 62) → is_none (code (or_none number x)) ≡ true ↔ x ≡ accepted None
none_read number (accepted None) h = (λ e. refl, λ e. refl)
none_read number (accepted (Some a)) h = (λ e. absurd (unlike (sym (count_some (number a) (h a refl)) ∙ e)), λ e. absurd (some_not e))
none_read number (refused n v) h = (λ e. absurd (unlike (sym (refused_some n v) ∙ e)), λ e. absurd (apart e))

-- The same where a message is written, or none: no buffer is so long that a message's length is GHJ_NONE.
pub none_written : (message : Outcome (Option (List ℕ))) (buffer : List ℕ) → length buffer < 2 ^ 62 → is_none (code_any message buffer) ≡ true ↔ message ≡ accepted None
unfolding written length_of
none_written (accepted None) buffer h = (λ e. refl, λ e. refl)
none_written (refused n v) buffer h = (λ e. absurd (unlike (sym (refused_some n v) ∙ e)), λ e. absurd (apart e))
none_written (accepted (Some bytes)) buffer h = (λ e. absurd (unlike (sym (go (ltb (length buffer) (length bytes)) refl) ∙ e)), λ e. absurd (some_not e))
  where
    go : (x : Bool) → ltb (length buffer) (length bytes) ≡ x → is_none (code ((if x then refused 11 [] else accepted bytes) >>= λ b. accepted (length b))) ≡ false
    go true p = refused_some 11 []
    go false p = count_some (length bytes) (omega (arith, ltb-false (length buffer) (length bytes) p))

-- What a caller makes of a collector's status,
abbrev pub standing_in : ℕ → Outcome Status
standing_in number = if is_refused number then refused (refusal_in number) [] else accepted (if is_missing number then Missing (missing_in number) else Complete number)

complete_back : (n : ℕ) → n ≤ 1024 → standing_in (code (standing (accepted (Complete n)))) ≡ accepted (Complete n)
complete_back n h = simp (count_plain n (omega arith), count_complete n (omega arith))

missing_back : (i : ℕ) → i ≤ 64 → standing_in (code (standing (accepted (Missing i)))) ≡ accepted (Missing i)
missing_back i h =
    let a : is_refused (missing_bit + i) ≡ false = count_plain (missing_bit + i) (omega arith) in
    let b : is_missing (missing_bit + i) ≡ true = eq-eqb ((missing_bit + i) / 2 ^ 61) 1 (omega arith) in
    let c : missing_in (missing_bit + i) ≡ i = omega arith in
    rw (a, b, c)

-- which is where it stands: 9, complete with the list's length, or the lowest unheard index. This holds of every collector.
pub status_read : (c : Collector) → standing_in (code (standing (standing_stored c))) ≡ standing_stored c
status_read c = go (well_stored c) (is_complete (parts_of c)) refl refl
  where
    at : {x y : Outcome Status} → x ≡ y → standing_in (code (standing y)) ≡ y → standing_in (code (standing x)) ≡ x
    at e f = rw e f

    go : (w x : Bool) → well_stored c ≡ w → is_complete (parts_of c) ≡ x → standing_in (code (standing (standing_stored c))) ≡ standing_stored c
    go false x p q = at (untold c p) refl
    go true true p q = let e = told c p ∙ standing_complete (parts_of c) (parts_formed c p) q in at e (complete_back (least_to c.marks 64) (told_within c (least_to c.marks 64) e))
    go true false p q = at (told c p ∙ standing_missing (parts_of c) (parts_formed c p) q) (missing_back (lowest c.marks 64) (lowest_le c.marks 64))
