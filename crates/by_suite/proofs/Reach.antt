-- The test that every entry runs passes exactly for what calls make from a fresh collector; so 9 is for the others.
use Prim.Native.Nat.{ℕ, suc, ◌-◌, ◌<◌}
use mathlib.Core.Bool.{Bool, true, false}
use mathlib.Core.List.{List, [], ◌∷◌}
use mathlib.Core.Logic.{◌↔◌, ◌⊎◌, inl, inr, ⊎_elim}
use mathlib.Core.Path.{◌≡◌, refl, sym, ap, ◌∙◌, subst}
use native.Mathlib.Omega.{arith}
use lib.Dec.{eqb, ltb}
use lib.ListN.{length}
use borrow.Author.Tests.{eq-eqb, ne_eqb, eqb-true, eqb-false}
use Rattle.std.specs.Prelude.{if◌then◌else◌}
use Rattle.base.specs.Outcome.{Outcome, accepted, refused, ◌>>=◌}
use Rattle.base.proofs.Outcome.{apart}
use Rattle.collector.specs.Collector.{last_index, part_length}
use Rattle.collector.specs.Demand.{AllBytes, Call, Explained, Explains, HeardIn, collecting, controllers, made, taken}
use Rattle.collector.specs.Stored.{ReachableStored, after_stored, fresh_stored, knowing, list_stored, standing_stored, storing, taking_stored, well_stored}
use Rattle.collector.specs.declared.Collector.{Collector}
use Rattle.collector.proofs.Basic.{both_left, both_right, eq_or_ne, true_not_false}
use Rattle.collector.proofs.History as parts
use Rattle.collector.proofs.Keeping.{not_exactly, refused_gone, taken_follows}
use Rattle.collector.proofs.Storing.{answer_stored_9, follows, list_stored_9, status_stored_9, well_stored_exactly}
use Rattle.suites.specs.Collected.{suites_of}
use Rattle.suites.specs.GetChannelCipherSuites.{zeros}
use Rattle.suites.proofs.collected.Laws.{suites_refuse_9}
use Rattle.suites.proofs.get_channel_cipher_suites.Laws.{zeros_are}
use Rattle.by_suite.specs.ChannelCollector.{agrees, channel_collector, current, from_fits, heard_by, list_from, standing_from, suites_from, taken_fits, taking_from, tested_from, well_made}
use Rattle.by_suite.specs.Demand.{ReachableFrom, SuitsFor, TypedFrom, channel_controllers, from_after, listening, tails}
use Rattle.by_suite.specs.GetChannelCipherSuites.{is_channel, list_in, nibble, number_in}
use Rattle.by_suite.specs.declared.channel_collector.ChannelCollector.{ChannelCollector}
use Rattle.by_suite.proofs.Demand.{call_bytes, is, read_back}
use Rattle.by_suite.proofs.Project.{Projects, heard_marked, made_well, projects}
use Rattle.by_suite.proofs.channel_collector.Laws.{small_number}

guarded : (b c : Bool) → (if b then c else false) ≡ true → (b ≡ true) × (c ≡ true)
guarded true c e = (refl, e)
guarded false c e = absurd (true_not_false e refl)

refusing_first : (b c : Bool) → (if b then false else c) ≡ true → (b ≡ false) × (c ≡ true)
refusing_first true c e = absurd (true_not_false e refl)
refusing_first false c e = (refl, e)

-- an old history with a channel byte put first
abbrev head_of : ℕ → Call → Call
head_of n call = record { index = call.index; content = n ∷ call.content }

unfoldable heads : ℕ → List Call → List Call
heads n [] = []
heads n (call ∷ earlier) = head_of n call ∷ heads n earlier

tails_heads : (n : ℕ) (h : List Call) → tails (heads n h) ≡ h
unfolding tails heads
tails_heads n [] = refl
tails_heads n (a ∷ h) = ap (◌∷◌ a) (tails_heads n h)

-- accepted answers are one list's
one_list : (h : List Call) → AllBytes h → Explained controllers (taken storing h)
one_list h u = subst (Explained controllers) (sym (taken_follows collecting storing knowing follows h)) (parts.explained h u)

module _ (m n : ℕ) (lm : is_channel m ≡ true) (ln : is_channel n ≡ true) (same : (m ≡ current) ⊎ (m ≡ n)) where
  explains_heads : (list : List ℕ) (t : List Call) → Explains controllers list t → Explains (channel_controllers m) (record { list = list; number = n }) (heads n t)
  unfolding heads
  explains_heads list [] e = tt
  explains_heads list (a ∷ t) e =
      let small : n < 16 = small_number n ln in
      (record { first = n; part = a.content; is = refl; small = omega arith; number = read_back n ln; answers = e.0 }, explains_heads list t e.1)

  -- they make, with the byte, the collector that the history made without it
  reached : (h : List Call) → AllBytes h → (s : ChannelCollector) → s.channel ≡ m → s.from ≡ from_after m (heads n (taken storing h)) → after_stored h ≡ s.collector → ReachableFrom s
  reached h u s p q r =
      let x = one_list h u in
      let t = taken storing h in
      let f : SuitsFor m (record { list = x.source; number = n }) = record { list = x.suits; legal = ln; same = same } in
      let e = explains_heads x.source t x.explains in
      record {
        channel = m;
        legal = lm;
        calls = heads n t;
        bytes = call_bytes m lm (record { list = x.source; number = n }) f (heads n t) e;
        is =
            is m lm (record { list = x.source; number = n }) f (heads n t) e
            ∙ ap (λ (l : List Call). channel_collector m (from_after m (heads n t)) (after_stored l)) (tails_heads n t)
            ∙ ap (channel_collector m (from_after m (heads n t))) (refused_gone storing h ∙ r)
            ∙ rw (p, q);
      }

-- a part was heard exactly if an answer was accepted

heard_some : (h : List Call) → zeros (after_stored h).marks ≡ false → (a : Call) × (t : List Call) × (taken storing h ≡ a ∷ t)
unfolding made
heard_some h e = go (taken storing h) refl
  where
    go : (t : List Call) → taken storing h ≡ t → (a : Call) × (t : List Call) × (taken storing h ≡ a ∷ t)
    go [] q =
        let f : after_stored h ≡ fresh_stored = sym (refused_gone storing h) ∙ ap (made storing) q in
        absurd (true_not_false (ap (λ (k : Collector). zeros k.marks) f ∙ zeros_are 64) e)
    go (a ∷ t) q = (a, t, q)

heard_none : (h : List Call) → AllBytes h → zeros (after_stored h).marks ≡ true → taken storing h ≡ []
heard_none h u e = go (taken storing h) refl
  where
    go : (t : List Call) → taken storing h ≡ t → taken storing h ≡ []
    go [] q = q
    go (a ∷ t) q = absurd (true_not_false e (heard_marked h u a.index (subst (HeardIn a.index) (sym q) (inl refl))))

-- no number in an answer is refused by 9

not_nine : (k : ℕ) → (k ≡ 9 → ⊥) → ◌≡◌ {A = Outcome ℕ} (refused k []) (refused 9 []) → ⊥
not_nine k n e = n cc

number_not_9 : (d : List ℕ) → number_in d ≡ refused 9 [] → ⊥
number_not_9 [] e = not_nine 1 (λ z. omega arith) e
number_not_9 (x ∷ l) e = go (ltb part_length (length l)) (is_channel (nibble x)) e
  where
    go : (a b : Bool) → (if a then refused 2 [] else if b then accepted (nibble x) else refused 6 []) ≡ refused 9 [] → ⊥
    go true b e = not_nine 2 (λ z. omega arith) e
    go false true e = apart (sym e)
    go false false e = not_nine 6 (λ z. omega arith) e

heard_not_9 : (from i : ℕ) (d : List ℕ) → heard_by from i d ≡ refused 9 [] → ⊥
heard_not_9 from i d e = go (ltb last_index i) (number_in d) (number_not_9 d) e
  where
    agreed : (n : ℕ) (b : Bool) → (if b then accepted n else refused 15 []) ≡ refused 9 [] → ⊥
    agreed n true e = apart (sym e)
    agreed n false e = not_nine 15 (λ z. omega arith) e

    go : (b : Bool) (o : Outcome ℕ) → (o ≡ refused 9 [] → ⊥) → (if b then refused 7 [] else (o >>= λ n. if agrees from n then accepted n else refused 15 [])) ≡ refused 9 [] → ⊥
    go true o never e = not_nine 7 (λ z. omega arith) e
    go false (accepted n) never e = agreed n (agrees from n) e
    go false (refused k v) never e = never e

module _ (s : ChannelCollector) where
  back : ReachableFrom s → well_made s ≡ true
  back r =
      let p : Projects r.channel r.calls = projects r.channel r.calls r.bytes in
      subst (λ (x : ChannelCollector). well_made x ≡ true) (sym p.is ∙ r.is) (made_well r.channel r.legal (taken (listening r.channel) r.calls) p.kept)

  module _ (r : ReachableStored s.collector) (f : from_fits s.channel s.from s.collector.marks ≡ true) where
    marks_are : zeros (after_stored r.calls).marks ≡ zeros s.collector.marks
    marks_are = ap (λ (k : Collector). zeros k.marks) r.made

    -- made for a channel
    own_reached : (s.channel ≡ current → ⊥) → ReachableFrom s
    unfolding heads
    own_reached ne =
        let (l, e) = guarded (is_channel s.channel) (eqb s.from (suc s.channel)) (rw (ne_eqb s.channel current ne) at f) in
        reached s.channel s.channel l l (inr refl) r.calls r.bytes s refl (eqb-true s.from (suc s.channel) e ∙ start (taken storing r.calls) l) r.made
      where
        start : (t : List Call) → is_channel s.channel ≡ true → suc s.channel ≡ from_after s.channel (heads s.channel t)
        start [] l = rw (ne_eqb s.channel current ne)
        start (a ∷ t) l = ap suc (sym (read_back s.channel l))

    -- made for Current
    current_reached : s.channel ≡ current → ReachableFrom s
    unfolding heads is_channel
    current_reached e = go (zeros s.collector.marks) refl (rw (eq-eqb s.channel current e) at f)
      where
        go : (b : Bool) → zeros s.collector.marks ≡ b → taken_fits s.from s.collector.marks ≡ true → ReachableFrom s
        go true z g =
            let none : taken storing r.calls ≡ [] = heard_none r.calls r.bytes (marks_are ∙ z) in
            reached current current refl refl (inl refl) r.calls r.bytes s e (eqb-true s.from 0 (rw z at g) ∙ sym (ap (λ (t : List Call). from_after current (heads current t)) none)) r.made
        go false z g =
            let (ne, l) = refusing_first (eqb s.from 0) (is_channel (s.from - 1)) (rw z at g) in
            let nz : s.from ≡ 0 → ⊥ = eqb-false s.from 0 ne in
            let (a, t, y) = heard_some r.calls (marks_are ∙ z) in
            reached current (s.from - 1) refl l (inl refl) r.calls r.bytes s e (sym (ap (λ (t : List Call). from_after current (heads (s.from - 1) t)) y ∙ ap suc (read_back (s.from - 1) l) ∙ (omega (arith, nz)))) r.made

  module _ (t : TypedFrom s) where
    there : well_made s ≡ true → ReachableFrom s
    there w =
        let f = both_left (from_fits s.channel s.from s.collector.marks) (well_stored s.collector) w in
        let r = (well_stored_exactly s.collector t.parts t.known).0 (both_right (from_fits s.channel s.from s.collector.marks) (well_stored s.collector) w) in
        ⊎_elim (current_reached r f) (own_reached r f) (eq_or_ne s.channel current)

    pub well_made_exactly : well_made s ≡ true ↔ ReachableFrom s
    well_made_exactly = (there, back)

    nine : {A : Type 0} (o : Outcome A) → (ReachableStored s.collector → o ≡ refused 9 [] → ⊥) → tested_from s o ≡ refused 9 [] ↔ (ReachableFrom s → ⊥)
    nine o never = (
      (λ e r.
          let w = back r in
          let k = (well_stored_exactly s.collector t.parts t.known).0 (both_right (from_fits s.channel s.from s.collector.marks) (well_stored s.collector) w) in
          never k (rw w at e)),
      λ none. let w : well_made s ≡ false = (not_exactly (well_made s) well_made_exactly).1 none in rw w,
    )

    -- so each entry gives 9 exactly to a collector that no calls make

    pub status_from_9 : standing_from s ≡ refused 9 [] ↔ (ReachableFrom s → ⊥)
    status_from_9 = nine (standing_stored s.collector) (λ r e. (status_stored_9 s.collector t.parts t.known).0 e r)

    pub list_from_9 : list_from s ≡ refused 9 [] ↔ (ReachableFrom s → ⊥)
    list_from_9 = nine (list_stored s.collector) (λ r e. (list_stored_9 s.collector t.parts t.known).0 e r)

    pub suites_from_9 : suites_from s ≡ refused 9 [] ↔ (ReachableFrom s → ⊥)
    suites_from_9 = nine (suites_of s.collector) (λ r e. (suites_refuse_9 s.collector t.parts t.known).0 e r)

    pub answer_from_9 : (i : ℕ) (d : List ℕ) → taking_from s i d ≡ refused 9 [] ↔ (ReachableFrom s → ⊥)
    unfolding taking_from
    answer_from_9 i d = nine (heard_by s.from i d >>= λ n. taking_stored s.collector i (list_in d) >>= λ c. accepted (channel_collector s.channel (suc n) c)) (λ r. go r (heard_by s.from i d) (heard_not_9 s.from i d))
      where
        left : (n : ℕ) (o : Outcome Collector) → (o >>= λ c. accepted (channel_collector s.channel (suc n) c)) ≡ refused 9 [] → o ≡ refused 9 []
        left n (accepted c) e = absurd (apart (sym e))
        left n (refused k v) e = let p : k ≡ 9 = cc in let q : v ≡ [] = cc in rw (p, q)

        go : ReachableStored s.collector → (o : Outcome ℕ) → (o ≡ refused 9 [] → ⊥) → (o >>= λ n. taking_stored s.collector i (list_in d) >>= λ c. accepted (channel_collector s.channel (suc n) c)) ≡ refused 9 [] → ⊥
        go r (accepted n) never e = (answer_stored_9 s.collector t.parts t.known i (list_in d)).0 (left n (taking_stored s.collector i (list_in d)) e) r
        go r (refused k v) never e = let p : k ≡ 9 = cc in let q : v ≡ [] = cc in never (rw (p, q))
