-- The examples that speak of collectors, by the theorems on demand 3: a collector has too many bytes to be computed with.
use Prim.Native.Nat.{ℕ, zero, suc, ◌≤◌, ◌<◌}
use mathlib.Core.Bool.{true}
use mathlib.Core.List.{List, [], ◌∷◌}
use mathlib.Core.Logic.{inl, inr, ⊎_elim}
use mathlib.Core.Path.{◌≡◌, refl, ap, subst, ◌∙◌}
use native.Mathlib.Omega.{arith}
use lib.Dec.{lit<}
use lib.ListN.{length, replicate}
use Rattle.base.specs.Field.{Bytes}
use Rattle.base.specs.Outcome.{Outcome, accepted, refused, ◌>>=◌, is_accepted}
use Rattle.base.specs.Verdict.{verdict_of}
use Rattle.by_suite.specs.ChannelCollector.{suites_from}
use Rattle.by_suite.specs.Demand.{listening}
use Rattle.by_suite.specs.GetChannelCipherSuites.{is_channel, list_by_suite}
use Rattle.by_suite.proofs.Demand.{suites_are_the_channels}
use Rattle.collector.specs.Collector.{answer_of, capacity, taking}
use Rattle.collector.specs.Demand.{AllHeard, Call, Explained, Explains, HeardIn, IsList, controllers, made, taken}
use Rattle.collector.specs.Histories.{accepted_of, after}
use Rattle.collector.specs.Stored.{after_stored, fresh_stored, list_stored, standing_stored, taking_stored}
use Rattle.collector.specs.declared.Collector.{Collector}
use Rattle.collector.specs.declared.Status.TheVariants.{Complete, Missing}
use Rattle.collector.proofs.Demand.{demand_3, twelve_exactly}
use Rattle.collector.proofs.Parts.{answer_length}
use Rattle.collector.proofs.Step.{fresh_wf}
use Rattle.collector.proofs.Storing.{answer_same, demand_3_stored}
use Rattle.suites.specs.GetChannelCipherSuites.{command_bytes, command_for, numbers_of, suites, up_to}

abbrev pub sevens : ℕ → List ℕ
sevens n = replicate n 7

-- an answer of so many bytes at an index
abbrev pub call : ℕ → ℕ → Call
call index bytes = record { index = index; content = sevens bytes }

bytes : (n : ℕ) → Bytes (sevens n)
bytes zero = tt
bytes (suc n) = (omega arith, bytes n)

-- a list of so many bytes, and its answers
module _ (n : ℕ) (s : length (sevens n) ≤ capacity) where
  list : IsList (sevens n)
  list = record { bytes = bytes n; size = s }

  module _ (h : List Call) (e : Explains controllers (sevens n) h) where
    whole : AllHeard controllers (sevens n) h → (standing_stored (after_stored h) ≡ accepted (Complete (length (sevens n)))) × (list_stored (after_stored h) ≡ accepted (sevens n))
    whole all = demand_3_stored.its_list (sevens n) list h e all

    all_accepted : accepted_of h ≡ h
    all_accepted = demand_3.none_refused (sevens n) list h e

pub P11 : (standing_stored (after_stored (call 0 0 ∷ [])) ≡ accepted (Complete 0)) × (list_stored (after_stored (call 0 0 ∷ [])) ≡ accepted [])
P11 = whole 0 (omega arith) (call 0 0 ∷ []) ((omega arith, refl), tt) (λ i il. let z : 0 ≡ i = omega arith in inl z)

abbrev two : List Call
two = call 2 0 ∷ call 0 16 ∷ []

abbrev three : List Call
three = call 1 3 ∷ two

honest_two : Explains controllers (sevens 19) two
honest_two = ((omega arith, refl), ((omega arith, refl), tt))

pub P12_first : standing_stored (after_stored two) ≡ accepted (Missing 1)
P12_first =
    let unheard : HeardIn 1 two → ⊥ = λ x. ⊎_elim (λ (z : 2 ≡ 1). omega arith) (λ y. ⊎_elim (λ (z : 0 ≡ 1). omega arith) (λ n. n) y) x in
    let (k, e, un, under) = demand_3_stored.names_lowest (sevens 19) (list 19 (omega arith)) two honest_two (λ all. unheard (all 1 (omega arith))) in
    go k e un under unheard
  where
    go : (k : ℕ) → standing_stored (after_stored two) ≡ accepted (Missing k) → (HeardIn k two → ⊥) → ((j : ℕ) → j < k → HeardIn j two) → (HeardIn 1 two → ⊥) → standing_stored (after_stored two) ≡ accepted (Missing 1)
    go zero e un under n = absurd (un (inr (inl refl)))
    go (suc zero) e un under n = e
    go (suc (suc k)) e un under n = absurd (n (under 1 (omega arith)))

pub P12_then : standing_stored (after_stored three) ≡ accepted (Complete 19)
P12_then =
    (whole 19 (omega arith) three ((omega arith, refl), honest_two) (λ i il. heard i (omega arith))).0
  where
    heard : (i : ℕ) → i ≤ 1 → HeardIn i three
    heard zero h = inr (inr (inl refl))
    heard (suc zero) h = inl refl
    heard (suc (suc i)) h = absurd (omega arith)

refused_as : {A : Type 0} (x : Outcome A) {n : ℕ} {v : List ℕ} → x ≡ refused n v → verdict_of x ≡ refused n v
refused_as x e = rw e

pub P13 : verdict_of (taking_stored (after_stored (call 1 3 ∷ [])) 2 (sevens 1)) ≡ refused 12 []
P13 =
    let q : accepted_of (call 1 3 ∷ []) ≡ call 1 3 ∷ [] = all_accepted 19 (omega arith) (call 1 3 ∷ []) ((omega arith, refl), tt) in
    let none : Explained controllers (call 2 1 ∷ accepted_of (call 1 3 ∷ [])) → ⊥ =
    λ x. let f : answer_of x.source 1 ≡ sevens 3 = (subst (Explains controllers x.source) q x.explains.1).0.1 in
    omega (arith, ap length f, ap length x.explains.0.1, answer_length x.source 1, answer_length x.source 2) in
    answer_same (call 1 3 ∷ []) 2 (sevens 1) ∙ refused_as (taking (after (call 1 3 ∷ [])) 2 (sevens 1)) ((twelve_exactly (call 1 3 ∷ []) (bytes 3, tt) (call 2 1) (bytes 1)).1 (omega arith, omega arith, none))

pub sixteen_at_63 : verdict_of (taking_stored fresh_stored 63 (sevens 16)) ≡ accepted tt
unfolding made taken
sixteen_at_63 =
    go (taking_stored fresh_stored 63 (sevens 16)) ((demand_3_stored.accepted_exactly [] tt (call 63 16) (bytes 16) (omega arith) (omega arith)).1 (record { source = sevens 1024; suits = list 1024 (omega arith); explains = ((omega arith, refl), tt) }))
  where
    go : (x : Outcome Collector) → is_accepted x ≡ true → verdict_of x ≡ accepted tt
    go (accepted c) e = refl
    go (refused n v) e = let z : ◌≡◌ {A = ℕ} 0 1 = cc in absurd (omega arith)

pub seventeen_at_63 : verdict_of (taking_stored fresh_stored 63 (sevens 17)) ≡ refused 2 []
unfolding made taking
seventeen_at_63 = answer_same [] 63 (sevens 17) ∙ rw fresh_wf

-- Document 02, C-12: index 2 of channel 1, asked by suite; an answer as it came, from channel 1.

pub asked_by_suite : (command_for list_by_suite 1 2 >>= command_bytes list_by_suite) ≡ accepted (0x01 ∷ 0x00 ∷ 0x82 ∷ [])
asked_by_suite = refl

abbrev record_3 : List ℕ
record_3 = 0xC0 ∷ 0x03 ∷ 0x01 ∷ 0x41 ∷ 0x81 ∷ []

abbrev pub as_it_came : Call
as_it_came = record { index = 0; content = 0x01 ∷ record_3 }

-- what a collector made for the channel shows of it is suite 3
pub the_3 : suites_from (made (listening 1) (as_it_came ∷ [])) ≡ accepted (3 ∷ [])
unfolding is_channel suites up_to
the_3 =
    suites_are_the_channels 1 refl (record { list = record_3; number = 1 })
    (record { list = record { bytes = (lit< tt, (lit< tt, (lit< tt, (lit< tt, (lit< tt, tt))))); size = omega arith }; legal = refl; same = inr refl })
    (as_it_came ∷ [])
    (record { first = 0x01; part = record_3; is = refl; small = lit< tt; number = refl; answers = (omega arith, refl) }, tt)
    (λ i il. let z : 0 ≡ i = omega arith in inl z)
    ∙ refl

-- where the same answer is read as document 01 reads it, its channel is a byte of the list, and no suite is shown
pub the_3_lost : numbers_of as_it_came.content ≡ []
unfolding suites up_to
the_3_lost = refl
