-- What holds of any keeper and any controllers: of demand 3's sentences some follow from others, and a keeper that does as another does keeps the demand with it.
use Prim.Native.Nat.{ℕ, suc, ◌≤◌, ◌<◌}
use mathlib.Core.Bool.{Bool, true, false}
use mathlib.Core.List.{List, [], ◌∷◌}
use mathlib.Core.Logic.{◌↔◌, ◌⊎◌, inl, inr, ⊎_elim}
use mathlib.Core.Path.{◌≡◌, refl, sym, ap, ◌∙◌, subst}
use native.Mathlib.Omega.{arith}
use lib.ListN.{length}
use Rattle.std.specs.Prelude.{if◌then◌else◌}
use Rattle.base.specs.Field.{Bytes}
use Rattle.base.specs.Outcome.{Outcome, accepted, refused, ◌>>=◌, is_accepted}
use Rattle.base.specs.Verdict.{record_of}
use Rattle.collector.specs.Collector.{last_index}
use Rattle.collector.specs.declared.Status.TheVariants.{Complete, Missing}
use Rattle.collector.specs.Demand.{Call, AllBytes, HeardIn, Keeper, made, taken, Controllers, Explains, last_needed, AllHeard, HasList, Asked, Explained, Demand3}
use Rattle.collector.proofs.Basic.{true_not_false, bool_cases, lt_or_le}

-- accepted exactly there is refused exactly elsewhere
pub not_exactly : {P : Type 0} (b : Bool) → (b ≡ true ↔ P) → b ≡ false ↔ (P → ⊥)
not_exactly b (to, from) = ((λ n x. true_not_false (from x) n), λ none. ⊎_elim (λ (y : b ≡ true). absurd (none (to y))) (λ (n : b ≡ false). n) (bool_cases b))

-- what it is, the accepted answers alone make: a refused one leaves nothing behind
pub refused_gone : {S : Type 0} (k : Keeper S) (h : List Call) → made k (taken k h) ≡ made k h
unfolding made taken
refused_gone k [] = refl
refused_gone {S} k (a ∷ h) = go (k.taking (made k h) a.index a.content) refl (refused_gone k h)
  where
    go : (o : Outcome S) → k.taking (made k h) a.index a.content ≡ o → made k (taken k h) ≡ made k h → made k (if is_accepted o then a ∷ taken k h else taken k h) ≡ record_of (made k h) o
    go (accepted s) e g = rw (g, e)
    go (refused n v) e g = g

module _ {S X : Type 0} (k : Keeper S) (c : Controllers X) (x : X) where
  -- A controller's answers are none of them refused, if each is taken that is explained with those accepted.
  module _ (s : c.Suits x) (legal : (i : ℕ) (d : List ℕ) → c.Answers x i d → Bytes d × (i ≤ last_index) × c.Legal d)
      (accepts : (h : List Call) → AllBytes h → (a : Call) → Bytes a.content → a.index ≤ last_index → c.Legal a.content → Explained c (a ∷ taken k h) → is_accepted (k.taking (made k h) a.index a.content) ≡ true) where
    pub explained_bytes : (h : List Call) → Explains c x h → AllBytes h
    explained_bytes [] e = tt
    explained_bytes (a ∷ h) e = ((legal a.index a.content e.0).0, explained_bytes h e.1)

    pub none_refused : (h : List Call) → Explains c x h → taken k h ≡ h
    unfolding taken
    none_refused [] e = refl
    none_refused (a ∷ h) e =
        let all : taken k h ≡ h = none_refused h e.1 in
        let (b, i, l) = legal a.index a.content e.0 in
        let y = accepts h (explained_bytes h e.1) a b i l (record { source = x; suits = s; explains = (e.0, subst (Explains c x) (sym all) e.1) }) in
        rw y (ap (◌∷◌ a) all)

  -- Always asking the index that is named ends, by what is named and when it is complete.
  module _ (its_list : (h : List Call) → Explains c x h → AllHeard c x h → HasList c x k h)
      (names_lowest : (h : List Call) → Explains c x h → (AllHeard c x h → ⊥) → (i : ℕ) × (k.standing (made k h) ≡ accepted (Missing i)) × (HeardIn i h → ⊥) × ((j : ℕ) → j < i → HeardIn j h)) where
    -- the answers were heard at exactly the indexes below their number
    record Below (h : List Call) : Type 0 where
      explains : Explains c x h
      to : (j : ℕ) → HeardIn j h → j < length h
      from : (j : ℕ) → j < length h → HeardIn j h
      short : length h ≤ suc (last_needed c x)

    abbrev GoesOn : List Call → Type 0
    GoesOn h = (length h ≤ last_needed c x) × (k.standing (made k h) ≡ accepted (Missing (length h)))

    abbrev Ended : List Call → Type 0
    Ended h = (length h ≡ suc (last_needed c x)) × HasList c x k h

    told : (h : List Call) → Below h → GoesOn h ⊎ Ended h
    told h b =
        ⊎_elim
        (λ (lt : length h < suc (last_needed c x)).
        let (i, s, un, under) = names_lowest h b.explains (λ all. let z : length h < length h = b.to (length h) (all (length h) (omega arith)) in omega arith) in
        let ge : length h ≤ i = ⊎_elim (λ (p : i < length h). absurd (un (b.from i p))) (λ (p : length h ≤ i). p) (lt_or_le i (length h)) in
        let le : i ≤ length h = ⊎_elim (λ (p : length h < i). let z : length h < length h = b.to (length h) (under (length h) p) in absurd (omega arith)) (λ (p : i ≤ length h). p) (lt_or_le (length h) i) in
        let e : i ≡ length h = omega arith in
        inl (omega arith, s ∙ ap (λ (n : ℕ). accepted (Missing n)) e))
        (λ (ge : suc (last_needed c x) ≤ length h). let n = b.short in inr (omega arith, its_list h b.explains (λ i il. b.from i (omega arith))))
        (lt_or_le (length h) (suc (last_needed c x)))

    below : (h : List Call) → Asked c x k h → Below h
    below [] q = record { explains = tt; to = λ j y. absurd y; from = λ j y. absurd (omega arith); short = omega arith }
    below (a ∷ h) q =
        let b : Below h = below h q.1 in
        ⊎_elim
        (λ (t : GoesOn h).
        let s : accepted (Missing a.index) ≡ accepted (Missing (length h)) = sym q.0.0 ∙ t.1 in
        let e : a.index ≡ length h = cc in
        let le : length h ≤ last_needed c x = t.0 in
        record {
          explains = (q.0.1, b.explains);
          to = λ j y. ⊎_elim (λ (z : a.index ≡ j). omega arith) (λ (z : HeardIn j h). let p : j < length h = b.to j z in omega arith) y;
          from = λ j y. ⊎_elim (λ (p : j < length h). inr (b.from j p)) (λ (p : length h ≤ j). inl (omega arith)) (lt_or_le j (length h));
          short = omega arith;
        })
        (λ (t : Ended h).
        let s : accepted (Missing a.index) ≡ accepted (Complete (length (c.list x))) = sym q.0.0 ∙ t.1.0 in
        let z : ◌≡◌ {A = ℕ} 0 1 = cc in
        absurd (omega arith))
        (told h b)

    pub asking_ends : (h : List Call) → Asked c x k h → GoesOn h ⊎ Ended h
    asking_ends h q = told h (below h q)

-- one keeper does as another does, state for state
pub record Follows {S T : Type 0} (k : Keeper S) (j : Keeper T) (f : S → T) : Type 0 where
  pub fresh : j.fresh ≡ f k.fresh
  pub taking : (s : S) (i : ℕ) (d : List ℕ) → j.taking (f s) i d ≡ (k.taking s i d >>= (λ t. accepted (f t)))
  pub standing : (s : S) → j.standing (f s) ≡ k.standing s
  pub list : (s : S) → j.list (f s) ≡ k.list s

module _ {S T : Type 0} (k : Keeper S) (j : Keeper T) (f : S → T) (r : Follows k j f) where
  same_accepted : (o : Outcome S) → is_accepted (o >>= (λ t. accepted (f t))) ≡ is_accepted o
  same_accepted (accepted s) = refl
  same_accepted (refused n v) = refl

  same_record : (s : S) (o : Outcome S) → record_of (f s) (o >>= (λ t. accepted (f t))) ≡ f (record_of s o)
  same_record s (accepted t) = refl
  same_record s (refused n v) = refl

  pub made_follows : (h : List Call) → made j h ≡ f (made k h)
  unfolding made
  made_follows [] = r.fresh
  made_follows (a ∷ h) = rw (made_follows h, r.taking (made k h) a.index a.content) (same_record (made k h) (k.taking (made k h) a.index a.content))

  accepts_follows : (h : List Call) (i : ℕ) (d : List ℕ) → is_accepted (j.taking (made j h) i d) ≡ is_accepted (k.taking (made k h) i d)
  accepts_follows h i d = rw (made_follows h, r.taking (made k h) i d) (same_accepted (k.taking (made k h) i d))

  pub taken_follows : (h : List Call) → taken j h ≡ taken k h
  unfolding taken
  taken_follows [] = refl
  taken_follows (a ∷ h) = rw (accepts_follows h a.index a.content, taken_follows h)

  stands_follows : (h : List Call) → j.standing (made j h) ≡ k.standing (made k h)
  stands_follows h = rw (made_follows h) (r.standing (made k h))

  list_follows : (h : List Call) → j.list (made j h) ≡ k.list (made k h)
  list_follows h = rw (made_follows h) (r.list (made k h))

  -- what keeps demand 3 carries it to what follows it
  pub carried : {X : Type 0} (c : Controllers X) → Demand3 k c → Demand3 j c
  carried c d =
      record {
        answers = d.answers;
        none_refused = λ x s h e. taken_follows h ∙ d.none_refused x s h e;
        complete_exactly = λ x s h e. rw (stands_follows h) (d.complete_exactly x s h e);
        its_list = its;
        names_lowest = names;
        asking_ends = λ x s. asking_ends j c x (its x s) (names x s);
        refused_exactly = λ h u a v i l. rw (accepts_follows h a.index a.content, taken_follows h) (d.refused_exactly h u a v i l);
        accepted_exactly = λ h u a v i l. rw (accepts_follows h a.index a.content, taken_follows h) (d.accepted_exactly h u a v i l);
      }
    where
      its : (x : _) → c.Suits x → (h : List Call) → Explains c x h → AllHeard c x h → HasList c x j h
      its x s h e = rw (stands_follows h, list_follows h) (d.its_list x s h e)

      names : (x : _) → c.Suits x → (h : List Call) → Explains c x h → (AllHeard c x h → ⊥) → (i : ℕ) × (j.standing (made j h) ≡ accepted (Missing i)) × (HeardIn i h → ⊥) × ((n : ℕ) → n < i → HeardIn n h)
      names x s h e = rw (stands_follows h) (d.names_lowest x s h e)
