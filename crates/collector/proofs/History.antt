-- What a history leaves: the lists that the collector allows are those that explain what was accepted.
use Prim.Native.Nat.{ℕ, ◌≤◌}
use mathlib.Core.Path.{◌≡◌, refl, sym, ap, subst}
use mathlib.Core.List.{List, [], ◌∷◌}
use mathlib.Core.Bool.{Bool, true, false}
use native.Mathlib.Omega.{arith}
use lib.ListN.{length, take}
use lib.Seq.{length-take-le}
use Rattle.collector.specs.Parts.{Parts}
use Rattle.std.specs.Prelude.{if◌then◌else◌}
use Rattle.base.specs.Field.{Bytes}
use Rattle.base.specs.Outcome.{Outcome, refused, is_accepted}
use Rattle.base.specs.Verdict.{record_of}
use Rattle.base.proofs.little.Laws.{bytes_take}
use Rattle.collector.specs.Collector.{least_to, well_formed, put, taking}
use Rattle.collector.specs.Demand.{Call, AllBytes, Explains, Explained, controllers, made, taken}
use Rattle.collector.specs.Histories.{Typed, after, accepted_of}
use Rattle.collector.proofs.Basic.{true_not_false, MarksOk, low_small, tells_low}
use Rattle.collector.proofs.Parts.{answer_length, zeros_put, tells_put, tells_old, tells_new}
use Rattle.collector.proofs.Step.{TellsOf, wf_marks, wf_zeros, wf_of, fresh_typed, fresh_tells, fresh_wf, same_answer, answer_same, put_typed, StepView, view}
use Rattle.collector.proofs.Step.StepView.{bad_index, too_long, repeats, differs, joins, clashes}

-- what an answer to a well-formed collector leaves

pub record Stepped (c : Parts) (i : ℕ) (d : List ℕ) (r : Outcome Parts) : Type 0 where
  pub typed : Typed (record_of c r)
  pub wf : well_formed (record_of c r) ≡ true
  pub old : (l : List ℕ) → TellsOf l (record_of c r) → TellsOf l c
  pub new : (l : List ℕ) → TellsOf l (record_of c r) → is_accepted r ≡ true → controllers.Answers l i d
  pub adds : (l : List ℕ) → TellsOf l c → controllers.Answers l i d → TellsOf l (record_of c r)
  pub kept : is_accepted r ≡ false → record_of c r ≡ c
  pub honest : (l : List ℕ) → TellsOf l c → controllers.Answers l i d → is_accepted r ≡ true

module _ (c : Parts) (i : ℕ) (d : List ℕ) (t : Typed c) (w : well_formed c ≡ true) (b : Bytes d) where
  -- a refusal that no list contradicts
  refusal : (n : ℕ) → ((l : List ℕ) → TellsOf l c → controllers.Answers l i d → ⊥) → Stepped c i d (refused n [])
  refusal n never =
      record {
        typed = t;
        wf = w;
        old = λ l s. s;
        new = λ l s e. absurd (true_not_false e refl);
        adds = λ l s a. s;
        kept = λ e. refl;
        honest = λ l s a. absurd (never l s a);
      }

  stepped_by : (r : Outcome Parts) → StepView c i d r → Stepped c i d r
  stepped_by r (bad_index h) = refusal 7 (λ l s a. omega (arith, a.0))
  stepped_by r (too_long il h) = refusal 2 (λ l s a. omega (arith, ap length a.1, answer_length l i))
  stepped_by r (repeats il dl nz e) =
      record {
        typed = t;
        wf = w;
        old = λ l s. s;
        new = λ l s q. (omega arith, same_answer c i d l s il nz e);
        adds = λ l s a. s;
        kept = λ q. absurd (true_not_false refl q);
        honest = λ l s a. refl;
      }
  stepped_by r (differs il dl nz e) = refusal 12 (λ l s a. true_not_false (answer_same c i d l s il nz a.1) e)
  stepped_by r (joins il dl z e) =
      record {
        typed = put_typed c i d t b il dl;
        wf = e;
        old = λ l s. tells_old c.bytes c.marks d i t.bytes t.marks il dl l s z;
        new = λ l s q. (omega arith, tells_new c.bytes c.marks d i t.bytes t.marks il dl l s);
        adds = λ l s a. tells_put c.bytes c.marks d i t.bytes t.marks il dl l s a.1;
        kept = λ q. absurd (true_not_false refl q);
        honest = λ l s a. refl;
      }
  stepped_by r (clashes il dl z e) =
      refusal 12 (λ l s a.
      true_not_false (wf_of (put c i d) l (tells_put c.bytes c.marks d i t.bytes t.marks il dl l s a.1)
      (zeros_put c.bytes c.marks d i t.bytes t.marks il dl (wf_zeros c w) z)) e)

  pub stepped : Stepped c i d (taking c i d)
  stepped = stepped_by (taking c i d) (view c i d w)

-- histories

pub record History (h : List Call) : Type 0 where
  pub typed : Typed (after h)
  pub wf : well_formed (after h) ≡ true
  pub to : (l : List ℕ) → TellsOf l (after h) → Explains controllers l (accepted_of h)
  pub from : (l : List ℕ) → length l ≤ 1024 → Explains controllers l (accepted_of h) → TellsOf l (after h)

pub history : (h : List Call) → AllBytes h → History h
unfolding made taken
history [] u = record { typed = fresh_typed; wf = fresh_wf; to = λ l t. tt; from = λ l s e. fresh_tells l s }
history (a ∷ h) u =
    let m : History h = history h u.1 in
    let s : Stepped (after h) a.index a.content (taking (after h) a.index a.content) = stepped (after h) a.index a.content m.typed m.wf u.0 in
    record {
      typed = s.typed;
      wf = s.wf;
      to = λ l t. go_to (taking (after h) a.index a.content) s m.to l t (is_accepted (taking (after h) a.index a.content)) refl;
      from = λ l n e. go_from (taking (after h) a.index a.content) s m.from l n (is_accepted (taking (after h) a.index a.content)) refl e;
    }
  where
    go_to : (r : Outcome Parts) → Stepped (after h) a.index a.content r → ((l : List ℕ) → TellsOf l (after h) → Explains controllers l (accepted_of h))
        → (l : List ℕ) → TellsOf l (record_of (after h) r) → (b : Bool) → is_accepted r ≡ b → Explains controllers l (if b then a ∷ accepted_of h else accepted_of h)
    go_to r s to l t true e = (s.new l t e, to l (s.old l t))
    go_to r s to l t false e = to l (s.old l t)

    go_from : (r : Outcome Parts) → Stepped (after h) a.index a.content r → ((l : List ℕ) → length l ≤ 1024 → Explains controllers l (accepted_of h) → TellsOf l (after h))
        → (l : List ℕ) → length l ≤ 1024 → (b : Bool) → is_accepted r ≡ b → Explains controllers l (if b then a ∷ accepted_of h else accepted_of h) → TellsOf l (record_of (after h) r)
    go_from r s from l n true e x = s.adds l (from l n x.1) x.0
    go_from r s from l n false e x = subst (λ (c : Parts). TellsOf l c) (sym (s.kept e)) (from l n x)

-- an answer is accepted exactly where a list explains it with those accepted

pub explained : (h : List Call) → AllBytes h → Explained controllers (accepted_of h)
explained h u =
    let m : History h = history h u in
    let c : Parts = after h in
    let ok : MarksOk (after h).marks (least_to (after h).marks 64) = wf_marks (after h) m.wf in
    let small : least_to (after h).marks 64 ≤ 1024 = low_small (after h).marks (least_to (after h).marks 64) ok in
    let long : length (after h).bytes ≡ 1024 = m.typed.bytes in
    let e : length (take (least_to (after h).marks 64) (after h).bytes) ≡ least_to (after h).marks 64 = length-take-le _ (after h).bytes (omega arith) in
    record {
      source = take (least_to (after h).marks 64) (after h).bytes;
      suits = record { bytes = bytes_take (least_to (after h).marks 64) (after h).bytes m.typed.small; size = omega arith };
      explains = m.to _ (tells_low (after h).bytes (after h).marks long ok);
    }

module _ (h : List Call) (u : AllBytes h) (a : Call) (v : Bytes a.content) where
  -- accepted: there is a list
  pub accepted_explained : is_accepted (taking (after h) a.index a.content) ≡ true → Explained controllers (a ∷ accepted_of h)
  unfolding taken
  accepted_explained e = subst (Explained controllers) eq (explained (a ∷ h) (v, u))
    where
      eq : accepted_of (a ∷ h) ≡ a ∷ accepted_of h
      eq = rw e

  -- there is a list: accepted
  pub explained_accepted : Explained controllers (a ∷ accepted_of h) → is_accepted (taking (after h) a.index a.content) ≡ true
  explained_accepted x =
      let m : History h = history h u in
      (stepped (after h) a.index a.content m.typed m.wf v).honest x.source (m.from x.source x.suits.size x.explains.1) x.explains.0
