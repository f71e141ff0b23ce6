-- What an answer says is one-to-one: two answers that come to one outcome are one answer.
use mathlib.Core.Path.{◌≡◌, refl, sym, ◌∙◌, ap}
use Rattle.std.specs.Prelude.{Ok, Err}
use Rattle.base.specs.Outcome.{Outcome, accepted, refused}
use Rattle.base.specs.Refusal.{said}
use Rattle.base.proofs.refusal.Laws.{named, named_row}

abbrev pub OneToOne : {X A : Type 0} → (X → Outcome A) → Type 0
OneToOne {X} said = (x y : X) → said x ≡ said y → x ≡ y

-- an answer that can be heard from what it says
pub heard : {X A : Type 0} (said : X → Outcome A) (back : Outcome A → X) → ((x : X) → back (said x) ≡ x) → OneToOne said
heard said back law x y e = sym (law x) ∙ ap back e ∙ law y

pub said_one : {A : Type 0} → OneToOne (said {A = A})
said_one {A} = heard said (elim [ accepted a ↦ Ok a | refused k v ↦ Err (named (k, v)) ]) (elim [ Ok a ↦ refl | Err r ↦ ap Err (named_row r) ])
