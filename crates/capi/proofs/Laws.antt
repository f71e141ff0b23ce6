-- What an answer comes to as a number.
use mathlib.Core.Path.{◌≡◌, refl, ◌∙◌, ap}
use mathlib.Core.List.{List}
use Rattle.std.specs.Prelude.{Result}
use Prim.Native.Nat.{ℕ}
use Rattle.base.specs.Outcome.{Outcome, accepted, refused}
use Rattle.base.specs.Refusal.{said}
use Rattle.base.specs.Verdict.{Gives, verdict_of}
use Rattle.base.specs.Written.{Writes}
use Rattle.base.specs.declared.refusal.Refusal.{Refusal}
use Rattle.capi.specs.Number.{Codes, Takes, code, plain}

pub coding : {message : Outcome (List ℕ)} {w : Result ℕ Refusal} {n : ℕ} {before after : List ℕ} → n ≡ code (said w) → Writes message w before after → Codes message n before after
coding e w = record { answers = e ∙ ap code w.answers; leaves = w.leaves }

-- what is written of a thing that was made first
pub coding_made : {A : Type 0} (bytes : A → Outcome (List ℕ)) {made a : A} {w : Result ℕ Refusal} {n : ℕ} {before after : List ℕ}
    → made ≡ a → n ≡ code (said w) → Writes (bytes made) w before after → Codes (bytes a) n before after
coding_made bytes e p w = rw (← e) (coding p w)

-- the number of a verdict that stands beside what it changes
plain_verdict : {A : Type 0} (o : Outcome A) → plain (verdict_of o) ≡ plain o
plain_verdict (accepted a) = refl
plain_verdict (refused number carried) = refl

pub taking_coded : {A : Type 0} {taken : Outcome A} {v : Result (Unit {0}) Refusal} {n : ℕ} {before after : A} → n ≡ code (plain (said v)) → Gives taken before v after → Takes taken n before after
taking_coded {taken = taken} e g = record { answers = e ∙ ap (λ x. code (plain x)) g.says ∙ ap code (plain_verdict taken); leaves = g.holds }
