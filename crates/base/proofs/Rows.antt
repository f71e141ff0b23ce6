-- Rows 9 and 10 of document 01's refusals, of any reader and writer of one kind.
use mathlib.Core.Logic.{◌↔◌}
use mathlib.Core.Path.{◌≡◌, refl, sym, ◌∙◌}
use mathlib.Core.Bool.{Bool, true, false}
use mathlib.Core.List.{List, []}
use Prim.Native.Nat.{ℕ}
use borrow.Author.Tests.{eqb-true, eq-eqb}
use lib.Dec.{eqb}
use lib.ListN.{length}
use Rattle.std.specs.Prelude.{if◌then◌else◌}
use Rattle.base.specs.Field.{Bytes}
use Rattle.base.specs.Outcome.{Outcome, accepted, refused, faults_as}
use Rattle.base.specs.Request.{request}
use Rattle.base.proofs.Outcome.{apart, when, unfaulted, Only, only_refused, no_form}

-- Row 9, "a writer is given a record that no response reader gives", exactly then: no string of bytes is read as it.
abbrev pub NoForm : {A : Type 0} → (List ℕ → Outcome A) → (A → Outcome (List ℕ)) → A → Type 0
NoForm read write a = write a ≡ refused 9 [] ↔ ((s : List ℕ) → Bytes s × (read s ≡ accepted a) → ⊥)

-- what is written is read again, and what is read is written
pub nine : {A : Type 0} (read : List ℕ → Outcome A) (write : A → Outcome (List ℕ)) (a : A) → Only 9 (write a)
    → ((s : List ℕ) → write a ≡ accepted s → Bytes s × (read s ≡ accepted a))
    → ((s : List ℕ) → Bytes s → read s ≡ accepted a → (t : List ℕ) × (write a ≡ accepted t)) → NoForm read write a
nine read write a only back given = no_form (write a) (λ s. Bytes s × (read s ≡ accepted a)) only back λ s g. given s g.0 g.1

-- Row 10, of a reader of requests: `Wrote` says what each command writes.
pub record Strict {A : Type 0} (read : List ℕ → Outcome A) (Wrote : A → List ℕ → Type 0) : Type 0 where
  -- that is a string of bytes
  pub bytes : (s : List ℕ) (k : A) → Wrote k s → Bytes s
  -- "Request readers accept exactly the byte strings that some command of its kind writes", and give that command
  pub iff : (s : List ℕ) (k : A) → Bytes s → read s ≡ accepted k ↔ Wrote k s
  -- 10 for "bytes that no command of its kind writes", exactly then
  pub ten : (s : List ℕ) → Bytes s → read s ≡ refused 10 [] ↔ ((k : A) → Wrote k s → ⊥)

only_ten : {A : Type 0} (width : ℕ) (s : List ℕ) (x : Outcome A) → Only 10 (request width s x)
only_ten {A} width s x = go (eqb (length s) width) x
  where
    go : (b : Bool) (y : Outcome A) → Only 10 (if b then faults_as 10 y else refused 10 [])
    go false y = refl
    go true (accepted a) = refl
    go true (refused n v) = refl

asked : {A : Type 0} (width : ℕ) (s : List ℕ) {x : Outcome A} {k : A} → request width s x ≡ accepted k → (length s ≡ width) × (x ≡ accepted k)
asked width s {x} e = let (p, f) = when 10 (eqb (length s) width) e in (eqb-true (length s) width p, unfaulted 10 x f)

-- Of a request's fields: those that are read are what some command writes, and what a command writes has the width and is read.
pub strict : {A : Type 0} (width : ℕ) (fields : List ℕ → Outcome A) (Wrote : A → List ℕ → Type 0)
    → ((s : List ℕ) (k : A) → Bytes s → length s ≡ width → fields s ≡ accepted k → Wrote k s)
    → ((s : List ℕ) (k : A) → Wrote k s → Bytes s × (length s ≡ width) × (fields s ≡ accepted k)) → Strict (λ s. request width s (fields s)) Wrote
strict {A} width fields Wrote taken written = record {
  bytes = λ s k w. (written s k w).0;
  iff = iff;
  ten = λ s b. ((λ e k w. apart (sym e ∙ (iff s k b).1 w)), λ none. only_refused 10 (request width s (fields s)) (only_ten width s (fields s)) λ k e. none k ((iff s k b).0 e));
}
  where
    iff : (s : List ℕ) (k : A) → Bytes s → request width s (fields s) ≡ accepted k ↔ Wrote k s
    iff s k b = ((λ e. let (l, f) = asked width s e in taken s k b l f), λ w. let (_, l, f) = written s k w in rw (eq-eqb (length s) width l, f))
