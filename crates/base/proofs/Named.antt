-- Laws of names: a number and what it names are each other's inverse.
use mathlib.Core.Logic.{◌↔◌}
use mathlib.Core.Path.{◌≡◌, refl, sym, ◌∙◌, ap}
use mathlib.Core.List.{List, [], ◌∷◌}
use Rattle.std.specs.Prelude.{Option, None, Some}
use Prim.Native.Nat.{ℕ, zero, suc, ◌+◌, ◌≤◌}
use native.Mathlib.Omega.{arith}
use lib.ListN.{length, get_or-eq_default}
use Rattle.base.specs.Named.{named, required}
use Rattle.base.specs.Outcome.{Outcome, accepted}

pub nothing : {A : Type 0} (names : List (Option A)) (n : ℕ) → length names ≤ n → named names n ≡ None
nothing names n h = get_or-eq_default names None h

-- the numbers of what is named, and the places where it stands, for one computed test
abbrev pub numbers : {A : Type 0} → (A → ℕ) → List (Option A) → List (Option ℕ)
numbers number [] = []
numbers number (None ∷ names) = None ∷ numbers number names
numbers number (Some a ∷ names) = Some (number a) ∷ numbers number names

abbrev pub places : {A : Type 0} → ℕ → List (Option A) → List (Option ℕ)
places at [] = []
places at (None ∷ names) = None ∷ places (suc at) names
places at (Some a ∷ names) = Some at ∷ places (suc at) names

apart : {A : Type 0} {a : A} → None ≡ Some a → ⊥
apart e = let z : ◌≡◌ {A = ℕ} 0 1 = cc in omega arith

numbered : {A : Type 0} (number : A → ℕ) (names : List (Option A)) (at n : ℕ) (a : A) → numbers number names ≡ places at names → named names n ≡ Some a → number a ≡ at + n
numbered number [] at n a e f = absurd (apart f)
numbered number (None ∷ names) at zero a e f = absurd (apart f)
numbered number (None ∷ names) at (suc n) a e f = let z = numbered number names (suc at) n a (cc) f in omega arith
numbered number (Some b ∷ names) at zero a e f = let y : number b ≡ at = cc in let z : number b ≡ number a = cc in omega arith
numbered number (Some b ∷ names) at (suc n) a e f = let z = numbered number names (suc at) n a (cc) f in omega arith

-- by the test, and that each has its own number
pub name_iff : {A : Type 0} (number : A → ℕ) (names : List (Option A)) → numbers number names ≡ places 0 names → ((a : A) → named names (number a) ≡ Some a)
    → (n : ℕ) (a : A) → named names n ≡ Some a ↔ number a ≡ n
name_iff number names test own n a = ((λ e. let z = numbered number names 0 n a test e in omega arith), λ e. rw (← e) (own a))

-- a number that is no name's names nothing
pub unnamed : {A : Type 0} (number : A → ℕ) (names : List (Option A)) → ((n : ℕ) (a : A) → named names n ≡ Some a ↔ number a ≡ n)
    → (n : ℕ) → ((a : A) → number a ≡ n → ⊥) → named names n ≡ None
unnamed {A} number names iff n never = go (named names n) refl
  where
    go : (o : Option A) → named names n ≡ o → named names n ≡ None
    go None e = e
    go (Some a) e = absurd (never a ((iff n a).0 e))

-- where something had to be named, it is
pub required_some : {A : Type 0} (n : ℕ) (v : List ℕ) (o : Option A) {a : A} → required n v o ≡ accepted a → o ≡ Some a
required_some n v None e = let z : ◌≡◌ {A = ℕ} 0 1 = cc in absurd (omega arith)
required_some n v (Some b) e = cc

-- what an answer's case tells of what a number names
pub told : {X A : Type 0} (said : X → Outcome (Option A)) {x y : X} {o : Option A} (n : Option A) → said x ≡ accepted o → x ≡ y → said y ≡ accepted n → o ≡ n
told said {o} n e f g = let z : accepted o ≡ accepted n = sym e ∙ ap said f ∙ g in cc
