-- What the code finds, by the tests that it makes.
use Prim.Native.Nat.{ℕ, suc, ◌+◌, ◌-◌, ◌≤◌, ◌<◌, max}
use mathlib.Core.Bool.{Bool, true, false}
use mathlib.Core.List.{List, [], ◌∷◌}
use mathlib.Core.Logic.{⊎_elim}
use mathlib.Core.Path.{◌≡◌, refl, sym, ap, ◌∙◌}
use native.Mathlib.Numerals.{add-one}
use native.Mathlib.Omega.{arith}
use lib.Dec.{eqb, ltb}
use lib.ListN.{length, take, drop, get_or}
use borrow.Author.Tests.{eq-eqb, ne_eqb, ltb-false}
use Rattle.std.specs.Prelude.{if◌then◌else◌, is_ok, Result, Ok, Err}
use Rattle.base.specs.Connection.{channel_of}
use Rattle.base.specs.Outcome.{Outcome, accepted, refused, ◌>>=◌, is_accepted}
use Rattle.base.specs.Refusal.{refusal, row, said}
use Rattle.base.specs.Verdict.{Gives}
use Rattle.base.specs.declared.connection.Channel.{Channel}
use Rattle.base.specs.declared.refusal.Refusal.{Refusal}
use Rattle.base.specs.declared.refusal.Refusal.TheVariants.{NoForm}
use Rattle.base.proofs.Outcome.{otherwise, when, steps}
use Rattle.base.proofs.connection.Laws.{channel_iff, channel_small}
use Rattle.base.proofs.Verdict.{giving, refusing, gave, fell}
use Rattle.collector.specs.Collector.{◌and◌}
use Rattle.collector.specs.Stored.{well_stored, taking_stored}
use Rattle.collector.specs.declared.Collector.{Collector}
use Rattle.collector.proofs.Basic.{bool_cases, eq_or_ne, true_not_false}
use Rattle.collector.proofs.Stored.{untested}
use Rattle.suites.specs.GetChannelCipherSuites.{zeros}
use Rattle.suites.proofs.get_channel_cipher_suites.Laws.{zeros_stop, zeros_on, zeros_end}
use Rattle.by_suite.specs.ChannelCollector.{agrees, channel_collector, from_fits, heard_by, heard_on, tested_from, taking_from}
use Rattle.by_suite.specs.GetChannelCipherSuites.{is_channel, list_in, number_in}
use Rattle.by_suite.specs.declared.channel_collector.ChannelCollector.{ChannelCollector}
use Rattle.by_suite.proofs.get_channel_cipher_suites.Laws.{NumberOf, number_of}

-- a number makes a channel
pub is_made : {A : Type 0} (r : Result A Refusal) → is_ok r ≡ is_accepted (said r)
is_made (Ok a) = refl
is_made (Err r) = refl

-- the largest mark so far is 0, and the rest are zeros
pub zeros_next : (s : List ℕ) (i a b : ℕ) → i < length s → b ≡ max a (get_or s i 0) → zeros s ≡ (if eqb a 0 then zeros (drop i s) else false) → zeros s ≡ (if eqb b 0 then zeros (drop (i + 1) s) else false)
zeros_next s i a b h m e =
    ⊎_elim
    (λ (z : a ≡ 0).
    let f : zeros s ≡ zeros (drop i s) = rw (eq-eqb a 0 z) at e in
    ⊎_elim (λ (y : get_or s i 0 ≡ 0). let w : b ≡ 0 = omega arith in rw (eq-eqb b 0 w) (f ∙ zeros_on s i h y))
    (λ (y : get_or s i 0 ≡ 0 → ⊥). rw (ne_eqb b 0 (λ (w : b ≡ 0). y (omega arith))) (f ∙ zeros_stop s i h y))
    (eq_or_ne (get_or s i 0) 0))
    (λ (z : a ≡ 0 → ⊥). rw (ne_eqb b 0 (λ (w : b ≡ 0). z (omega arith))) (rw (ne_eqb a 0 z) at e))
    (eq_or_ne a 0)

pub zeros_done : (s : List ℕ) (i a : ℕ) → length s ≤ i → zeros s ≡ (if eqb a 0 then zeros (drop i s) else false) → eqb a 0 ≡ zeros s
zeros_done s i a h e = sym (e ∙ go (eqb a 0))
  where
    go : (b : Bool) → (if b then zeros (drop i s) else false) ≡ b
    go true = zeros_end s i h
    go false = refl

-- an answer whose number is taken

pub small_number : (n : ℕ) → is_channel n ≡ true → n < 16
unfolding is_channel
small_number n e = go (channel_of n) refl e
  where
    go : (o : Outcome Channel) → channel_of n ≡ o → is_accepted o ≡ true → n < 16
    go (accepted c) q y = channel_small c n ((channel_iff n c).0 q)
    go (refused k v) q y = absurd (true_not_false y refl)

pub record HeardAs (from i : ℕ) (d : List ℕ) (n : ℕ) : Type 0 where
  pub index : i ≤ 63
  pub is : number_in d ≡ accepted n
  pub agree : agrees from n ≡ true

pub heard_as : (from i : ℕ) (d : List ℕ) (n : ℕ) → heard_by from i d ≡ accepted n → HeardAs from i d n
heard_as from i d n e =
    let (p, f) = otherwise 7 (ltb 63 i) e in
    let (k, q, g) = steps (number_in d) (λ k. if agrees from k then accepted k else refused 15 []) f in
    let (a, h) = when 15 (agrees from k) g in
    let z : k ≡ n = cc in
    record { index = ltb-false 63 i p; is = q ∙ ap accepted z; agree = rw (← z) a }

-- a refusal, by its row

abbrev by_row : {A : Type 0} → ℕ × List ℕ → Outcome A
by_row x = refused x.0 x.1

as_nine : {A B : Type 0} (x : ℕ × List ℕ) → by_row {A = A} x ≡ refused 9 [] → by_row {A = B} x ≡ refused 9 []
as_nine x e = let p : x.0 ≡ 9 = cc in let q : x.1 ≡ [] = cc in rw (p, q)

-- the tests of an entry

module _ (s : ChannelCollector) where
  module _ {A : Type 0} (o : Outcome A) where
    pub unfit : from_fits s.channel s.from s.collector.marks ≡ false → tested_from s o ≡ refused 9 []
    unfit f = rw f

    -- what gives 9 by itself to a collector that no calls make
    pub fit : from_fits s.channel s.from s.collector.marks ≡ true → (well_stored s.collector ≡ false → o ≡ refused 9 []) → tested_from s o ≡ o
    fit f n = ⊎_elim (λ (w : well_stored s.collector ≡ true). rw (f, w)) (λ (w : well_stored s.collector ≡ false). rw (f, w) (sym (n w))) (bool_cases (well_stored s.collector))

  -- an answer whose number is taken goes to the collector as it is
  module _ (i : ℕ) (d : List ℕ) where
    pub passed : (n : ℕ) → from_fits s.channel s.from s.collector.marks ≡ true → heard_by s.from i d ≡ accepted n → taking_from s i d ≡ (taking_stored s.collector i (list_in d) >>= (λ c. accepted (channel_collector s.channel (suc n) c)))
    unfolding taking_from
    passed n f h =
        fit _ f (λ w. rw (h, untested s.collector i (list_in d) w)) ∙ rw h

    -- where it is refused, it is refused so behind the test
    module _ (r r' : Refusal) (e : refusal r ≡ heard_on s.channel s.from s.collector.marks i d) (b : row r' ≡ (if well_stored s.collector then row r else row NoForm)) where
      stopped : taking_from s i d ≡ refusal r'
      unfolding taking_from
      stopped = go (from_fits s.channel s.from s.collector.marks) (well_stored s.collector) e b
        where
          go : (f w : Bool) → refusal r ≡ (if f then heard_by s.from i d else refused 9 []) → row r' ≡ (if w then row r else row NoForm)
              → (if f and w then (heard_by s.from i d >>= λ n. taking_stored s.collector i (list_in d) >>= λ c. accepted (channel_collector s.channel (suc n) c)) else refused 9 []) ≡ refusal r'
          go true true e q = rw (← e) (ap by_row (sym q))
          go true false e q = ap by_row (sym q)
          go false true e q = sym (as_nine (row r) e) ∙ ap by_row (sym q)
          go false false e q = ap by_row (sym q)

      pub refused_behind : Gives (taking_from s i d) s (Err r') s
      refused_behind = refusing s r' stopped

    -- what its first byte says
    module _ (n : ℕ) (e : accepted n ≡ heard_on s.channel s.from s.collector.marks i d) where
      heard_is : (from_fits s.channel s.from s.collector.marks ≡ true) × (heard_by s.from i d ≡ accepted n)
      heard_is = when 9 (from_fits s.channel s.from s.collector.marks) (sym e)

      pub number_is : NumberOf d n
      number_is = number_of d n (heard_as s.from i d n heard_is.1).is

      -- what the collector makes of the rest
      module _ {part : List ℕ} (q : part ≡ list_in d) {k : Collector} where
        pub taken_as : Gives (taking_stored s.collector i part) s.collector (Ok tt) k → Gives (taking_from s i d) s (Ok tt) (channel_collector s.channel (n + 1) k)
        taken_as g =
            let t : taking_stored s.collector i (list_in d) ≡ accepted k = ap (taking_stored s.collector i) (sym q) ∙ gave (taking_stored s.collector i part) g refl in
            rw (add-one n) (giving s (channel_collector s.channel (suc n) k) (passed n heard_is.0 heard_is.1 ∙ rw t))

        pub refused_as : (r : Refusal) → Gives (taking_stored s.collector i part) s.collector (Err r) k → Gives (taking_from s i d) s (Err r) (channel_collector s.channel s.from k)
        refused_as r g =
            let (o, z) = fell (taking_stored s.collector i part) r g refl in
            let t : taking_stored s.collector i (list_in d) ≡ refusal r = ap (taking_stored s.collector i) (sym q) ∙ o in
            rw z (refusing s r (passed n heard_is.0 heard_is.1 ∙ rw t))

-- the bytes behind the first
pub rest_is : (d : List ℕ) → take (length d - 1) (drop 1 d) ≡ list_in d
rest_is [] = refl
rest_is (x ∷ d) = let z : suc (length d) - 1 ≡ length d = omega arith in rw z (all d)
  where
    all : (l : List ℕ) → take (length l) l ≡ l
    all [] = refl
    all (y ∷ l) = ap (◌∷◌ y) (all l)
