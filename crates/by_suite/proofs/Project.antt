-- The projection: what a history makes, by its accepted answers without their first bytes.
use Prim.Native.Nat.{ℕ, suc, ◌-◌}
use mathlib.Core.Bool.{true, false}
use mathlib.Core.List.{List, [], ◌∷◌}
use mathlib.Core.Logic.{inl, ⊎_elim}
use mathlib.Core.Path.{◌≡◌, refl, sym, ap, ◌∙◌, subst}
use native.Mathlib.Omega.{arith}
use lib.ListN.{length, get_or}
use borrow.Author.Tests.{eq-eqb, ne_eqb, eqb-true}
use Rattle.base.specs.Field.{Bytes, byte}
use Rattle.base.specs.Outcome.{Outcome, accepted, refused}
use Rattle.base.proofs.Outcome.{steps, when}
use Rattle.base.proofs.little.Laws.{bytes_drop, zero_at}
use Rattle.collector.specs.Demand.{AllBytes, Call, HeardIn, collecting, made, taken}
use Rattle.collector.specs.Stored.{ReachableStored, after_stored, knowing, storing, taking_stored, well_stored}
use Rattle.collector.specs.declared.Collector.{Collector}
use Rattle.collector.proofs.Basic.{bool_cases, eq_or_ne}
use Rattle.collector.proofs.Heard.{known}
use Rattle.collector.proofs.Keeping.{taken_follows}
use Rattle.collector.proofs.Storing.{follows, made_knowing, reachable_stored_typed, well_stored_exactly}
use Rattle.suites.specs.GetChannelCipherSuites.{zeros}
use Rattle.suites.proofs.get_channel_cipher_suites.Laws.{all_zero, zeros_are}
use Rattle.by_suite.specs.ChannelCollector.{agrees, channel_collector, current, from_fits, heard_by, taking_from, well_made}
use Rattle.by_suite.specs.Demand.{from_after, listening, state_after, tails}
use Rattle.by_suite.specs.GetChannelCipherSuites.{is_channel, list_in, nibble, number_in}
use Rattle.by_suite.specs.declared.channel_collector.ChannelCollector.{ChannelCollector}
use Rattle.by_suite.proofs.channel_collector.Laws.{HeardAs, heard_as}
use Rattle.by_suite.proofs.get_channel_cipher_suites.Laws.{number_of}

-- An accepted answer.
pub record Took (s : ChannelCollector) (i : ℕ) (d : List ℕ) (t : ChannelCollector) : Type 0 where
  pub number : ℕ
  pub heard : HeardAs s.from i d number
  pub left : Collector
  pub took : taking_stored s.collector i (list_in d) ≡ accepted left
  pub gives : channel_collector s.channel (suc number) left ≡ t

pub took : (s : ChannelCollector) (i : ℕ) (d : List ℕ) (t : ChannelCollector) → taking_from s i d ≡ accepted t → Took s i d t
unfolding taking_from
took s i d t e =
    let (_, f) = when 9 (well_made s) e in
    let (n, h, g) = steps (heard_by s.from i d) _ f in
    let (c, q, k) = steps (taking_stored s.collector i (list_in d)) _ g in
    record { number = n; heard = heard_as s.from i d n h; left = c; took = q; gives = cc }

-- All have one channel's number.
abbrev pub AllFrom : ℕ → List Call → Type 0
AllFrom n [] = Unit {0}
AllFrom n (call ∷ earlier) = (number_in call.content ≡ accepted n) × AllFrom n earlier

-- what holds of the accepted answers
pub record OneChannel (m : ℕ) (t : List Call) : Type 0 where
  pub bytes : AllBytes t
  pub all : taken storing (tails t) ≡ tails t
  pub one : (n : ℕ) → from_after m t ≡ suc n → AllFrom n t
  pub own : (m ≡ current → ⊥) → from_after m t ≡ suc m

pub tail_bytes : (t : List Call) → AllBytes t → AllBytes (tails t)
unfolding tails
tail_bytes [] u = tt
tail_bytes (a ∷ t) (b, u) = (bytes_drop 1 a.content b, tail_bytes t u)

agree_is : (x n : ℕ) → agrees (suc x) n ≡ true → x ≡ n
agree_is x n e =
    let f = rw (ne_eqb (suc x) 0 (λ (z : suc x ≡ 0). omega arith)) at e in
    let z : suc x ≡ suc n = eqb-true (suc x) (suc n) f in
    omega arith

one_before : (m n : ℕ) (t : List Call) → ((k : ℕ) → from_after m t ≡ suc k → AllFrom k t) → agrees (from_after m t) n ≡ true → AllFrom n t
one_before m n [] one e = tt
one_before m n (b ∷ t) one e = one n (ap suc (agree_is (nibble (byte 0 b.content)) n e))

-- a part was heard, or none

pub not_silent : (ms : List ℕ) (i : ℕ) → (get_or ms i 0 ≡ 0 → ⊥) → zeros ms ≡ false
not_silent ms i n =
    ⊎_elim (λ (e : zeros ms ≡ true). absurd (n (ap (λ (l : List ℕ). get_or l i 0) (all_zero ms e) ∙ zero_at (length ms) i))) (λ (e : zeros ms ≡ false). e) (bool_cases (zeros ms))

pub heard_marked : (h : List Call) → AllBytes h → (i : ℕ) → HeardIn i (taken storing h) → zeros (after_stored h).marks ≡ false
heard_marked h u i x =
    let (_, n) = (known h u).marked i (subst (HeardIn i) (taken_follows collecting storing knowing follows h) x) in
    rw (made_knowing h) (not_silent (made collecting h).marks i n)

-- what calls make passes the collector's test
pub well_after : (h : List Call) → AllBytes h → well_stored (after_stored h) ≡ true
well_after h u =
    let r : ReachableStored (after_stored h) = record { calls = h; bytes = u; made = refl } in
    let (t, n) = reachable_stored_typed (after_stored h) r in
    (well_stored_exactly (after_stored h) t n).1 r

module _ (m : ℕ) (legal : is_channel m ≡ true) where
  pub fits : (t : List Call) → OneChannel m t → from_fits m (from_after m t) (after_stored (tails t)).marks ≡ true
  unfolding tails made
  fits t k = ⊎_elim (λ (e : m ≡ current). now t k e) (λ (n : m ≡ current → ⊥). rw (ne_eqb m current n, legal) (eq-eqb (from_after m t) (suc m) (k.own n))) (eq_or_ne m current)
    where
      now : (t : List Call) → OneChannel m t → m ≡ current → from_fits m (from_after m t) (after_stored (tails t)).marks ≡ true
      now [] k e = rw (eq-eqb m current e, zeros_are 64)
      now (a ∷ t) k e =
          let n : ℕ = nibble (byte 0 a.content) in
          let s : zeros (after_stored (tails (a ∷ t))).marks ≡ false = heard_marked (tails (a ∷ t)) (tail_bytes (a ∷ t) k.bytes) a.index (subst (HeardIn a.index) (sym k.all) (inl refl)) in
          let c : is_channel n ≡ true = (number_of a.content n (k.one n refl).0).legal in
          let z : suc n - 1 ≡ n = omega arith in
          rw (eq-eqb m current e, s, ne_eqb (suc n) 0 (λ (y : suc n ≡ 0). omega arith)) (subst (λ (x : ℕ). is_channel x ≡ true) (sym z) c)

  pub made_well : (t : List Call) → OneChannel m t → well_made (state_after m t) ≡ true
  made_well t k = rw (fits t k, well_after (tails t) (tail_bytes t k.bytes))

-- one more accepted answer
module _ (m : ℕ) (t : List Call) (k : OneChannel m t) (a : Call) (b : Bytes a.content) (s : ChannelCollector) (o : Took (state_after m t) a.index a.content s) where
  first_is : nibble (byte 0 a.content) ≡ o.number
  first_is = (number_of a.content o.number o.heard.is).first

  pub one_more : OneChannel m (a ∷ t)
  unfolding tails made taken
  one_more =
      record {
        bytes = (b, k.bytes);
        all = rw (o.took, k.all);
        one = λ n e.
            let q : o.number ≡ n = sym first_is ∙ (omega (arith, e)) in
            (o.heard.is ∙ ap accepted q, one_before m n t k.one (rw q at o.heard.agree));
        own = λ n.
            let g : agrees (suc m) o.number ≡ true = subst (λ (x : ℕ). agrees x o.number ≡ true) (k.own n) o.heard.agree in
            ap suc (first_is ∙ sym (agree_is m o.number g));
      }

  pub state_next : s ≡ state_after m (a ∷ t)
  unfolding tails made
  state_next = sym o.gives ∙ rw (o.took, first_is)

-- The projection: the collector that calls make is the number that its accepted answers have, and what these make of document 01's without their first bytes.
pub record Projects (m : ℕ) (h : List Call) : Type 0 where
  pub is : made (listening m) h ≡ state_after m (taken (listening m) h)
  pub kept : OneChannel m (taken (listening m) h)

module _ (m : ℕ) where
  none_yet : OneChannel m []
  unfolding tails made taken
  none_yet = record { bytes = tt; all = refl; one = λ n e. tt; own = λ n. rw (ne_eqb m current n) }

  pub projects : (h : List Call) → AllBytes h → Projects m h
  unfolding made taken tails
  projects [] u = record { is = refl; kept = none_yet }
  projects (a ∷ h) u = go (projects h u.1) (taking_from (made (listening m) h) a.index a.content) refl
    where
      go : Projects m h → (r : Outcome ChannelCollector) → taking_from (made (listening m) h) a.index a.content ≡ r → Projects m (a ∷ h)
      go p (refused n v) e = record { is = rw e p.is; kept = rw e p.kept }
      go p (accepted s) e =
          let t = taken (listening m) h in
          let o : Took (state_after m t) a.index a.content s = took _ _ _ _ (sym (ap (λ (x : ChannelCollector). taking_from x a.index a.content) p.is) ∙ e) in
          record { is = rw e (state_next m t p.kept a u.0 s o); kept = rw e (one_more m t p.kept a u.0 s o) }
