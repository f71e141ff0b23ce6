-- Laws of outcomes.
use mathlib.Core.Logic.{◌↔◌}
use mathlib.Core.Path.{◌≡◌, refl, sym, ◌∙◌}
use mathlib.Core.Bool.{Bool, true, false}
use mathlib.Core.List.{List, []}
use Prim.Native.Nat.{ℕ, ◌≤◌}
use native.Mathlib.Omega.{arith}
use borrow.Author.Tests.{ltb-false, le-ltb}
use lib.Dec.{ltb}
use Rattle.std.specs.Prelude.{if◌then◌else◌}
use Rattle.base.specs.Choice.{if◌from◌to◌then◌else◌}
use Rattle.base.specs.Outcome.{Outcome, accepted, refused, ◌>>=◌, faults_as}

pub apart : {A : Type 0} {a : A} {n : ℕ} {v : List ℕ} → refused n v ≡ accepted a → ⊥
apart e = let z : ◌≡◌ {A = ℕ} 0 1 = cc in omega arith

-- where something is accepted behind a test that refuses, the test was passed

pub otherwise : {A : Type 0} (n : ℕ) (b : Bool) {x : Outcome A} {a : A} → (if b then refused n [] else x) ≡ accepted a → (b ≡ false) × (x ≡ accepted a)
otherwise n true e = absurd (apart e)
otherwise n false e = (refl, e)

pub when : {A : Type 0} (n : ℕ) (b : Bool) {x : Outcome A} {a : A} → (if b then x else refused n []) ≡ accepted a → (b ≡ true) × (x ≡ accepted a)
when n true e = (refl, e)
when n false e = absurd (apart e)

pub unfaulted : {A : Type 0} (n : ℕ) (x : Outcome A) {a : A} → faults_as n x ≡ accepted a → x ≡ accepted a
unfaulted n (accepted b) e = e
unfaulted n (refused k v) e = absurd (apart e)

-- where two steps are accepted, each is
pub steps : {A B : Type 0} (x : Outcome A) (next : A → Outcome B) {b : B} → (x >>= next) ≡ accepted b → (a : A) × (x ≡ accepted a) × (next a ≡ accepted b)
steps (accepted a) next e = (a, refl, e)
steps (refused n v) next e = absurd (apart e)

-- x is refused by no other number than n
abbrev pub Only : {A : Type 0} → ℕ → Outcome A → Type 0
Only n x = faults_as n x ≡ x

pub only_steps : {A B : Type 0} (n : ℕ) (x : Outcome A) (next : A → Outcome B) → Only n x → ((a : A) → Only n (next a)) → Only n (x >>= next)
only_steps n (accepted a) next p q = q a
only_steps n (refused k v) next p q = cc

pub only_else : {A : Type 0} (n : ℕ) (b : Bool) (x : Outcome A) → Only n x → Only n (if b then refused n [] else x)
only_else n true x p = refl
only_else n false x p = p

pub only_refused : {A : Type 0} (n : ℕ) (x : Outcome A) → Only n x → ((a : A) → x ≡ accepted a → ⊥) → x ≡ refused n []
only_refused n (accepted a) p none = absurd (none a refl)
only_refused n (refused k v) p none = cc

-- Refusal 9, exactly where nothing that is read gives the record: `Gives s` says that s does.
pub no_form : (write : Outcome (List ℕ)) (Gives : List ℕ → Type 0) → Only 9 write → ((s : List ℕ) → write ≡ accepted s → Gives s)
    → ((s : List ℕ) → Gives s → (t : List ℕ) × (write ≡ accepted t)) → write ≡ refused 9 [] ↔ ((s : List ℕ) → Gives s → ⊥)
no_form write Gives only back given = ((λ e s g. apart (sym e ∙ (given s g).1)), λ none. only_refused 9 write only λ s e. none s (back s e))

-- what a range accepts, and that it refuses by its own number
module _ {A : Type 0} (n first last : ℕ) (a : A) (k : ℕ) where
  pub inside : first ≤ n → n ≤ last → (if n from first to last then accepted a else refused k []) ≡ accepted a
  inside p q = simp (le-ltb n first p, le-ltb last n q)

  pub ranged : {b : A} → (if n from first to last then accepted a else refused k []) ≡ accepted b → (first ≤ n) × (n ≤ last) × (a ≡ b)
  ranged {b} e = let (p, f) = otherwise k (ltb n first) e in let (q, g) = otherwise k (ltb last n) f in (ltb-false n first p, ltb-false last n q, cc)

  pub only_ranged : Only k (if n from first to last then accepted a else refused k [])
  only_ranged = only_else k (ltb n first) _ (only_else k (ltb last n) _ refl)
