-- The marks tell which indexes were heard.
use Prim.Native.Nat.{ℕ, suc, ◌≤◌, ◌<◌}
use mathlib.Core.Path.{◌≡◌, refl, sym, ap, ◌∙◌, subst}
use mathlib.Core.Logic.{◌⊎◌, inl, inr, ⊎_elim}
use mathlib.Core.List.{List, [], ◌∷◌}
use mathlib.Core.Bool.{Bool, true, false}
use native.Mathlib.Omega.{arith}
use lib.ListN.{length, get_or}
use Rattle.collector.specs.Parts.{Parts}
use Rattle.std.specs.Prelude.{if◌then◌else◌}
use Rattle.base.specs.Outcome.{Outcome, accepted, refused, is_accepted}
use Rattle.base.specs.Verdict.{record_of}
use Rattle.base.proofs.little.Laws.{zero_at}
use Rattle.collector.specs.Collector.{answer_of, well_formed, put, taking}
use Rattle.collector.specs.Demand.{Call, AllBytes, HeardIn, Explains, controllers, made, taken}
use Rattle.collector.specs.Histories.{Typed, after, accepted_of, Among}
use Rattle.collector.proofs.Basic.{true_not_false, eq_or_ne}
use Rattle.collector.proofs.Parts.{mark_here, mark_other}
use Rattle.collector.proofs.Step.{TellsOf, answer_same, StepView, view}
use Rattle.collector.proofs.Step.StepView.{bad_index, too_long, repeats, differs, joins, clashes}
use Rattle.collector.proofs.History.{History, history}

abbrev pub Marked : Parts → ℕ → Type 0
Marked c j = get_or c.marks j 0 ≡ 0 → ⊥

pub record Hears (c : Parts) (i : ℕ) (r : Outcome Parts) : Type 0 where
  pub stays : (j : ℕ) → Marked c j → Marked (record_of c r) j
  pub here : is_accepted r ≡ true → (i < 64) × Marked (record_of c r) i
  pub only : (j : ℕ) → Marked (record_of c r) j → Marked c j ⊎ ((i ≡ j) × (is_accepted r ≡ true))

module _ (c : Parts) (i : ℕ) (d : List ℕ) (t : Typed c) (w : well_formed c ≡ true) where
  deaf : (n : ℕ) → Hears c i (refused n [])
  deaf n = record { stays = λ j m. m; here = λ e. absurd (true_not_false e refl); only = λ j m. inl m }

  hears_by : (r : Outcome Parts) → StepView c i d r → Hears c i r
  hears_by r (bad_index h) = deaf 7
  hears_by r (too_long il h) = deaf 2
  hears_by r (repeats il dl nz e) = record { stays = λ j m. m; here = λ q. (il, nz); only = λ j m. inl m }
  hears_by r (differs il dl nz e) = deaf 12
  hears_by r (joins il dl z e) =
      let at : get_or (put c i d).marks i 0 ≡ suc (length d) = mark_here c.bytes c.marks d i t.bytes t.marks il dl in
      record {
        stays = λ j m q.
            ⊎_elim (λ (e : j ≡ i). m (rw e z)) (λ (n : j ≡ i → ⊥). m (sym (mark_other c.bytes c.marks d i t.bytes t.marks il dl j n) ∙ q)) (eq_or_ne j i);
        here = λ q. (il, λ y. omega arith);
        only = λ j m.
            ⊎_elim (λ (e : j ≡ i). inr (sym e, refl)) (λ (n : j ≡ i → ⊥). inl (λ y. m (mark_other c.bytes c.marks d i t.bytes t.marks il dl j n ∙ y))) (eq_or_ne j i);
      }
  hears_by r (clashes il dl z e) = deaf 12

  pub hears : Hears c i (taking c i d)
  hears = hears_by (taking c i d) (view c i d w)

pub record Known (h : List Call) : Type 0 where
  pub marked : (j : ℕ) → HeardIn j (accepted_of h) → (j < 64) × Marked (after h) j
  pub heard : (j : ℕ) → Marked (after h) j → HeardIn j (accepted_of h)

pub known : (h : List Call) → AllBytes h → Known h
unfolding made taken
known [] u = record { marked = λ j x. absurd x; heard = λ j m. absurd (m (zero_at 64 j)) }
known (a ∷ h) u =
    let m : History h = history h u.1 in
    let k : Known h = known h u.1 in
    let s : Hears (after h) a.index (taking (after h) a.index a.content) = hears (after h) a.index a.content m.typed m.wf in
    record {
      marked = λ j. go_marked (taking (after h) a.index a.content) s k.marked j (is_accepted (taking (after h) a.index a.content)) refl;
      heard = λ j x. go_heard (taking (after h) a.index a.content) k.heard j (is_accepted (taking (after h) a.index a.content)) refl (s.only j x);
    }
  where
    go_marked : (r : Outcome Parts) → Hears (after h) a.index r → ((j : ℕ) → HeardIn j (accepted_of h) → (j < 64) × Marked (after h) j)
        → (j : ℕ) (b : Bool) → is_accepted r ≡ b → HeardIn j (if b then a ∷ accepted_of h else accepted_of h) → (j < 64) × Marked (record_of (after h) r) j
    go_marked r s f j true e (inl q) = subst (λ (n : ℕ). (n < 64) × Marked (record_of (after h) r) n) q (s.here e)
    go_marked r s f j true e (inr x) = ((f j x).0, s.stays j (f j x).1)
    go_marked r s f j false e x = ((f j x).0, s.stays j (f j x).1)

    go_heard : (r : Outcome Parts) → ((j : ℕ) → Marked (after h) j → HeardIn j (accepted_of h))
        → (j : ℕ) (b : Bool) → is_accepted r ≡ b → Marked (after h) j ⊎ ((a.index ≡ j) × (is_accepted r ≡ true)) → HeardIn j (if b then a ∷ accepted_of h else accepted_of h)
    go_heard r f j true e (inl m) = inr (f j m)
    go_heard r f j true e (inr q) = inl q.0
    go_heard r f j false e (inl m) = f j m
    go_heard r f j false e (inr q) = absurd (true_not_false q.1 e)

-- a call among others

pub among_heard : (a : Call) (h : List Call) → Among a h → HeardIn a.index h
among_heard a [] x = x
among_heard a (b ∷ h) (inl e) = inl (ap (λ (x : Call). x.index) e)
among_heard a (b ∷ h) (inr x) = inr (among_heard a h x)

pub heard_among : (i : ℕ) (h : List Call) → HeardIn i h → (a : Call) × Among a h × (a.index ≡ i)
heard_among i [] x = absurd x
heard_among i (b ∷ h) (inl e) = (b, inl refl, e)
heard_among i (b ∷ h) (inr x) = let (a, y, e) = heard_among i h x in (a, inr y, e)

pub among_explains : (l : List ℕ) (a : Call) (h : List Call) → Among a h → Explains controllers l h → answer_of l a.index ≡ a.content
among_explains l a [] x e = absurd x
among_explains l a (b ∷ h) (inl q) e = subst (λ (x : Call). answer_of l x.index ≡ x.content) q e.0.1
among_explains l a (b ∷ h) (inr x) e = among_explains l a h x e.1

-- an equal repeat is accepted and changes nothing
pub repeat_by : (c : Parts) (i : ℕ) (d l : List ℕ) → TellsOf l c → answer_of l i ≡ d → i < 64 → length d ≤ 16 → Marked c i → (r : Outcome Parts) → StepView c i d r → r ≡ accepted c
repeat_by c i d l t a il dl m r (bad_index h) = absurd (omega arith)
repeat_by c i d l t a il dl m r (too_long j h) = absurd (omega arith)
repeat_by c i d l t a il dl m r (repeats j k nz e) = refl
repeat_by c i d l t a il dl m r (differs j k nz e) = absurd (true_not_false (answer_same c i d l t il m a) e)
repeat_by c i d l t a il dl m r (joins j k z e) = absurd (m z)
repeat_by c i d l t a il dl m r (clashes j k z e) = absurd (m z)
