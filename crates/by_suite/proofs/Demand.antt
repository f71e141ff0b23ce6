-- A channel's collector keeps demand 3: by the projection, from what document 01's keeps (Project.antt).
use Prim.Native.Nat.{ℕ, suc, ◌*◌, ◌≤◌, ◌<◌}
use mathlib.Core.Bool.{Bool, true, false}
use mathlib.Core.List.{List, [], ◌∷◌}
use mathlib.Core.Logic.{◌↔◌, ◌⊎◌, inl, inr, ⊎_elim}
use mathlib.Core.Path.{◌≡◌, refl, sym, ap, ◌∙◌, subst}
use native.Mathlib.Omega.{arith}
use lib.Dec.{eqb}
use lib.ListN.{length, drop}
use borrow.Author.Tests.{eq-eqb, ne_eqb, le-ltb}
use Rattle.base.specs.Field.{Bytes, byte}
use Rattle.base.specs.Outcome.{Outcome, accepted, refused, ◌>>=◌, is_accepted}
use Rattle.base.proofs.little.Laws.{bytes_drop, bytes_take}
use Rattle.collector.specs.Collector.{◌or◌, last_index, answer_of, taking}
use Rattle.collector.specs.declared.Status.TheVariants.{Complete, Missing}
use Rattle.collector.specs.Demand.{AllBytes, AllHeard, Call, Demand3, Explained, Explains, HasList, HeardIn, controllers, made, taken}
use Rattle.collector.specs.Histories.{after}
use Rattle.collector.specs.Parts.{Parts}
use Rattle.collector.specs.Stored.{after_stored, knowing, list_stored, standing_stored, storing, taking_stored}
use Rattle.collector.specs.declared.Collector.{Collector}
use Rattle.collector.proofs.Basic.{bool_cases, eq_or_ne, true_not_false}
use Rattle.collector.proofs.Demand.{demand_3, twelve_exactly}
use Rattle.collector.proofs.Keeping.{asking_ends, explained_bytes, none_refused, not_exactly}
use Rattle.collector.proofs.Parts.{answer_length}
use Rattle.collector.proofs.Storing.{demand_3_stored, follows, made_knowing}
use Rattle.suites.specs.GetChannelCipherSuites.{numbers_of}
use Rattle.by_suite.specs.ChannelCollector.{agrees, channel_collector, current, heard_by, list_from, standing_from, suites_from, taking_from}
use Rattle.by_suite.specs.Demand.{AnswersFrom, Source, SuitsFor, channel_controllers, from_after, listening, state_after, tail_of, tails}
use Rattle.by_suite.specs.GetChannelCipherSuites.{is_channel, list_in, nibble, number_in}
use Rattle.by_suite.specs.declared.channel_collector.ChannelCollector.{ChannelCollector}
use Rattle.by_suite.proofs.Project.{AllFrom, OneChannel, Projects, Took, fits, made_well, one_more, projects, tail_bytes, took}
use Rattle.by_suite.proofs.channel_collector.Laws.{passed, small_number}
use Rattle.by_suite.proofs.get_channel_cipher_suites.Laws.{number_of}

-- an index was heard with the first bytes exactly if it was heard without

pub heard_tail : (i : ℕ) (h : List Call) → HeardIn i h → HeardIn i (tails h)
unfolding tails
heard_tail i [] x = x
heard_tail i (a ∷ h) (inl e) = inl e
heard_tail i (a ∷ h) (inr x) = inr (heard_tail i h x)

pub tail_heard : (i : ℕ) (h : List Call) → HeardIn i (tails h) → HeardIn i h
unfolding tails
tail_heard i [] x = x
tail_heard i (a ∷ h) (inl e) = inl e
tail_heard i (a ∷ h) (inr x) = inr (tail_heard i h x)

pub read_back : (n : ℕ) → is_channel n ≡ true → nibble n ≡ n
read_back n e = let s : n < 16 = small_number n e in omega arith

pub agree_same : (n : ℕ) → agrees (suc n) n ≡ true
agree_same n = go (eqb (suc n) 0) (eq-eqb (suc n) (suc n) refl)
  where
    go : (b : Bool) {c : Bool} → c ≡ true → (b or c) ≡ true
    go true e = refl
    go false e = e

on_taken : (m n : ℕ) (o : Outcome Collector) → is_accepted (o >>= (λ c. accepted (channel_collector m (suc n) c))) ≡ is_accepted o
on_taken m n (accepted c) = refl
on_taken m n (refused k v) = refl

-- one more answer, whose number agrees
pub taken_if : (m : ℕ) (legal : is_channel m ≡ true) (t : List Call) (k : OneChannel m t) (i n : ℕ) (d : List ℕ) → i ≤ last_index → number_in d ≡ accepted n → agrees (from_after m t) n ≡ true
    → is_accepted (taking_from (state_after m t) i d) ≡ is_accepted (taking_stored (after_stored (tails t)) i (list_in d))
taken_if m legal t k i n d il e g =
    let h : heard_by (from_after m t) i d ≡ accepted n = rw (le-ltb last_index i il, e, g) in
    ap is_accepted (passed (state_after m t) i d n (fits m legal t k) h) ∙ on_taken m n (taking_stored (after_stored (tails t)) i (list_in d))

-- a source, and its answers

module _ (m : ℕ) (x : Source) (s : SuitsFor m x) where
  module _ (i : ℕ) (d : List ℕ) (q : AnswersFrom x i d) where
    tail_answers : controllers.Answers x.list i (list_in d)
    tail_answers = subst (λ (l : List ℕ). controllers.Answers x.list i (list_in l)) (sym q.is) q.answers

    part_bytes : Bytes q.part
    part_bytes = subst Bytes q.answers.1 (bytes_take 16 (drop (16 * i) x.list) (bytes_drop (16 * i) x.list s.list.bytes))

    numbered : number_in d ≡ accepted x.number
    numbered = rw (q.is, le-ltb 16 (length q.part) (omega (arith, ap length q.answers.1, answer_length x.list i)), q.number, s.legal)

    legal : Bytes d × (i ≤ last_index) × (is_accepted (number_in d) ≡ true)
    legal = (subst Bytes (sym q.is) (q.small, part_bytes), q.answers.0, ap is_accepted numbered)

  explains_tails : (h : List Call) → Explains (channel_controllers m) x h → Explains controllers x.list (tails h)
  unfolding tails
  explains_tails [] e = tt
  explains_tails (a ∷ h) e = (tail_answers a.index a.content e.0, explains_tails h e.1)

  -- whatever was heard of it, its number agrees
  agreeing : (t : List Call) → Explains (channel_controllers m) x t → agrees (from_after m t) x.number ≡ true
  agreeing [] e =
      ⊎_elim (λ (q : m ≡ current). rw (eq-eqb m current q))
      (λ (n : m ≡ current → ⊥).
      let z : m ≡ x.number = ⊎_elim (λ (y : m ≡ current). absurd (n y)) (λ (y : m ≡ x.number). y) s.same in
      rw (ne_eqb m current n) (subst (λ (y : ℕ). agrees (suc m) y ≡ true) z (agree_same m)))
      (eq_or_ne m current)
  agreeing (a ∷ t) e =
      let z : nibble (byte 0 a.content) ≡ x.number = (number_of a.content x.number (numbered a.index a.content e.0)).first in
      rw z (agree_same x.number)

-- answers of one number, whose rest one list explains, are a source's
untail : (m : ℕ) (list : List ℕ) (n : ℕ) (t : List Call) → AllBytes t → AllFrom n t → Explains controllers list (tails t) → Explains (channel_controllers m) (record { list = list; number = n }) t
unfolding tails
untail m list n [] u c e = tt
untail m list n (a ∷ t) u c e = (go a.content u.0 c.0 e.0, untail m list n t u.1 c.1 e.1)
  where
    go : (d : List ℕ) → Bytes d → number_in d ≡ accepted n → controllers.Answers list a.index (list_in d) → AnswersFrom (record { list = list; number = n }) a.index d
    go [] b q f = let z : 1 ≤ 0 = (number_of [] n q).some in absurd (omega arith)
    go (first ∷ part) b q f = record { first = first; part = part; is = refl; small = b.0; number = (number_of (first ∷ part) n q).first; answers = f }

module _ (m : ℕ) (legal-m : is_channel m ≡ true) where
  -- any answers

  module _ (h : List Call) (u : AllBytes h) (a : Call) (v : Bytes a.content) where
    p : Projects m h
    p = projects m h u

    explained : OneChannel m (a ∷ taken (listening m) h) → Explained controllers (tails (a ∷ taken (listening m) h)) → Explained (channel_controllers m) (a ∷ taken (listening m) h)
    explained k x =
        let n : ℕ = nibble (byte 0 a.content) in
        let c : AllFrom n (a ∷ taken (listening m) h) = k.one n refl in
        record {
          source = record { list = x.source; number = n };
          suits = record {
            list = x.suits;
            legal = (number_of a.content n c.0).legal;
            same = ⊎_elim (λ (e : m ≡ current). inl e) (λ (e : m ≡ current → ⊥). let z : suc n ≡ suc m = k.own e in inr (omega arith)) (eq_or_ne m current);
          };
          explains = untail m x.source n (a ∷ taken (listening m) h) k.bytes c x.explains;
        }

    accepted_explained : is_accepted (taking_from (made (listening m) h) a.index a.content) ≡ true → Explained (channel_controllers m) (a ∷ taken (listening m) h)
    unfolding tails
    accepted_explained y = go (taking_from (state_after m (taken (listening m) h)) a.index a.content) refl (rw p.is at y)
      where
        go : (r : Outcome ChannelCollector) → taking_from (state_after m (taken (listening m) h)) a.index a.content ≡ r → is_accepted r ≡ true → Explained (channel_controllers m) (a ∷ taken (listening m) h)
        go (refused n w) e y = absurd (true_not_false y refl)
        go (accepted s) e y =
            let o : Took (state_after m (taken (listening m) h)) a.index a.content s = took _ _ _ _ e in
            let k : OneChannel m (a ∷ taken (listening m) h) = one_more m (taken (listening m) h) p.kept a v s o in
            let b = tail_bytes (a ∷ taken (listening m) h) k.bytes in
            let short = (number_of a.content o.number o.heard.is).short in
            explained k (subst (λ (l : List Call). Explained controllers (tail_of a ∷ l)) p.kept.all ((demand_3_stored.accepted_exactly (tails (taken (listening m) h)) b.1 (tail_of a) b.0 o.heard.index short).0 (ap is_accepted o.took)))

    explained_accepted : a.index ≤ last_index → Explained (channel_controllers m) (a ∷ taken (listening m) h) → is_accepted (taking_from (made (listening m) h) a.index a.content) ≡ true
    explained_accepted il x =
        let t : List Call = taken (listening m) h in
        let n = numbered m x.source x.suits a.index a.content x.explains.0 in
        let tail : Explained controllers (tail_of a ∷ taken storing (tails t)) =
        record {
          source = x.source.list;
          suits = x.suits.list;
          explains = (tail_answers m x.source x.suits a.index a.content x.explains.0, subst (Explains controllers x.source.list) (sym p.kept.all) (explains_tails m x.source x.suits t x.explains.1));
        } in
        let y : is_accepted (taking_stored (after_stored (tails t)) a.index (list_in a.content)) ≡ true = (demand_3_stored.accepted_exactly (tails t) (tail_bytes t p.kept.bytes) (tail_of a) (bytes_drop 1 a.content v) il (number_of a.content x.source.number n).short).1 tail in
        rw p.is (taken_if m legal-m t p.kept a.index x.source.number a.content il n (agreeing m x.source x.suits t x.explains.1) ∙ y)

    exactly : a.index ≤ last_index → is_accepted (taking_from (made (listening m) h) a.index a.content) ≡ true ↔ Explained (channel_controllers m) (a ∷ taken (listening m) h)
    exactly il = (accepted_explained, explained_accepted il)

  -- a source's answers

  module _ (x : Source) (s : SuitsFor m x) where
    none : (h : List Call) → Explains (channel_controllers m) x h → taken (listening m) h ≡ h
    none h e = none_refused (listening m) (channel_controllers m) x s (legal m x s) (λ g w a v il l y. explained_accepted g w a v il y) h e

    module _ (h : List Call) (e : Explains (channel_controllers m) x h) where
      pub call_bytes : AllBytes h
      call_bytes = explained_bytes (listening m) (channel_controllers m) x s (legal m x s) (λ g w a v il l y. explained_accepted g w a v il y) h e

      q : Projects m h
      q = projects m h call_bytes

      kept : OneChannel m h
      kept = subst (OneChannel m) (none h e) q.kept

      pub is : made (listening m) h ≡ state_after m h
      is = q.is ∙ ap (state_after m) (none h e)

      stands_as : standing_from (made (listening m) h) ≡ standing_stored (after_stored (tails h))
      stands_as = ap standing_from is ∙ rw (made_well m legal-m h kept)

      lists_as : list_from (made (listening m) h) ≡ list_stored (after_stored (tails h))
      lists_as = ap list_from is ∙ rw (made_well m legal-m h kept)

      old : Explains controllers x.list (tails h)
      old = explains_tails m x s h e

      its : AllHeard (channel_controllers m) x h → HasList (channel_controllers m) x (listening m) h
      its y = let (a, b) = demand_3_stored.its_list x.list s.list (tails h) old (λ i il. heard_tail i h (y i il)) in (stands_as ∙ a, lists_as ∙ b)

      names : (AllHeard (channel_controllers m) x h → ⊥) → (i : ℕ) × (standing_from (made (listening m) h) ≡ accepted (Missing i)) × (HeardIn i h → ⊥) × ((j : ℕ) → j < i → HeardIn j h)
      names n =
          let (i, z, un, under) = demand_3_stored.names_lowest x.list s.list (tails h) old (λ y. n (λ i il. tail_heard i h (y i il))) in
          (i, stands_as ∙ z, (λ y. un (heard_tail i h y)), λ j jl. tail_heard j h (under j jl))

      completes : ((n : ℕ) × (standing_from (made (listening m) h) ≡ accepted (Complete n))) ↔ AllHeard (channel_controllers m) x h
      completes =
          let (to, from) = demand_3_stored.complete_exactly x.list s.list (tails h) old in
          ((λ (n, z) i il. tail_heard i h (to (n, sym stands_as ∙ z) i il)), λ y. let (n, z) = from (λ i il. heard_tail i h (y i il)) in (n, stands_as ∙ z))

  -- Demand 3, for every channel and for Current: 15 and 12 both mean that no list and number explain the answer.
  pub demand_3_from : Demand3 (listening m) (channel_controllers m)
  demand_3_from =
      record {
        answers = λ x s i il.
            let z : nibble x.number ≡ x.number = read_back x.number s.legal in
            let small : x.number < 16 = small_number x.number s.legal in
            let a : AnswersFrom x i (x.number ∷ answer_of x.list i) = record { first = x.number; part = answer_of x.list i; is = refl; small = omega arith; number = z; answers = (il, refl) } in
            (x.number ∷ answer_of x.list i, a, (legal m x s i (x.number ∷ answer_of x.list i) a).2);
        none_refused = none;
        complete_exactly = completes;
        its_list = its;
        names_lowest = names;
        asking_ends = λ x s. asking_ends (listening m) (channel_controllers m) x (its x s) (names x s);
        refused_exactly = λ h u a v il l. not_exactly _ (exactly h u a v il);
        accepted_exactly = λ h u a v il l. exactly h u a v il;
      }

  -- Where the 3 comes from: a controller's answers as they came, every index heard that its list needs, and the suites shown are those of its list.
  pub suites_are_the_channels : (x : Source) → SuitsFor m x → (h : List Call) → Explains (channel_controllers m) x h → AllHeard (channel_controllers m) x h → suites_from (made (listening m) h) ≡ accepted (numbers_of x.list)
  suites_are_the_channels x s h e all =
      ap suites_from (is x s h e) ∙ rw (made_well m legal-m h (kept x s h e), (demand_3_stored.its_list x.list s.list (tails h) (old x s h e) (λ i il. heard_tail i h (all i il))).1)

  -- Which of the two refuses: 15 where the number is another channel's, else 12.
  module _ (h : List Call) (u : AllBytes h) (a : Call) (v : Bytes a.content) (il : a.index ≤ last_index) (n : ℕ) (e : number_in a.content ≡ accepted n) where
    abbrev RefusedSo : ChannelCollector → Type 0
    RefusedSo s =
        is_accepted (taking_from s a.index a.content) ≡ false
        → ((agrees s.from n ≡ false) × (taking_from s a.index a.content ≡ refused 15 [])) ⊎ ((agrees s.from n ≡ true) × (taking_from s a.index a.content ≡ refused 12 []))

    -- document 01's collector refuses by 12 alone
    twelve : (t : List Call) → AllBytes t → is_accepted (taking_stored (after_stored t) a.index (list_in a.content)) ≡ false → taking_stored (after_stored t) a.index (list_in a.content) ≡ refused 12 []
    twelve t b y =
        let short = (number_of a.content n e).short in
        let (none, _) = demand_3.refused_exactly t b (tail_of a) (bytes_drop 1 a.content v) il short in
        let same : taking_stored (after_stored t) a.index (list_in a.content) ≡ (taking (after t) a.index (list_in a.content) >>= λ c. accepted (knowing c)) = rw (made_knowing t) (follows.taking (after t) a.index (list_in a.content)) in
        let f : is_accepted (taking (after t) a.index (list_in a.content)) ≡ false = sym (same_accepted (taking (after t) a.index (list_in a.content))) ∙ ap is_accepted (sym same) ∙ y in
        let q : taking (after t) a.index (list_in a.content) ≡ refused 12 [] = (twelve_exactly t b (tail_of a) (bytes_drop 1 a.content v)).1 (il, short, none f) in
        same ∙ rw q
      where
        same_accepted : (o : Outcome Parts) → is_accepted (o >>= λ c. accepted (knowing c)) ≡ is_accepted o
        same_accepted (accepted c) = refl
        same_accepted (refused k w) = refl

    fifteen : (t : List Call) → OneChannel m t → agrees (from_after m t) n ≡ false → taking_from (state_after m t) a.index a.content ≡ refused 15 []
    unfolding taking_from
    fifteen t k g = rw (made_well m legal-m t k, le-ltb last_index a.index il, e, g)

    so : (t : List Call) → OneChannel m t → RefusedSo (state_after m t)
    so t k y =
        ⊎_elim
        (λ (g : agrees (from_after m t) n ≡ true).
        let p = passed (state_after m t) a.index a.content n (fits m legal-m t k) (rw (le-ltb last_index a.index il, e, g)) in
        let f = sym (taken_if m legal-m t k a.index n a.content il e g) ∙ y in
        inr (g, p ∙ rw (twelve (tails t) (tail_bytes t k.bytes) f)))
        (λ (g : agrees (from_after m t) n ≡ false). inl (g, fifteen t k g))
        (bool_cases (agrees (from_after m t) n))

    pub refused_so : RefusedSo (made (listening m) h)
    refused_so = let p = projects m h u in subst RefusedSo (sym p.is) (so (taken (listening m) h) p.kept)
