-- Demand 3, of whatever takes answers: no word of how it stores them, nor of what an answer looks like. Last, the collector of document 01, and who answers it.
use Rattle.std.specs.Prelude.{ℕ, suc, ◌/◌, ◌≤◌, ◌<◌, min, true, false, List, [], ◌∷◌, ◌↔◌, ◌⊎◌, ◌≡◌, length, if◌then◌else◌}
use Rattle.base.specs.Field.{Bytes}
use Rattle.base.specs.Outcome.{Outcome, accepted, is_accepted}
use Rattle.base.specs.Verdict.{record_of}
use Rattle.collector.specs.Collector.{last_index, part_length, capacity, answer_of, fresh, taking, standing_of, list_of}
use Rattle.collector.specs.declared.Status.{Status}
use Rattle.collector.specs.declared.Status.TheVariants.{Complete, Missing}
use Rattle.collector.specs.Parts.{Parts}

-- an answer with its index, of any size
pub record Call : Type 0 where
  pub index : ℕ
  pub content : List ℕ

-- every call's content is bytes. A history of calls is listed latest first.
abbrev pub AllBytes : List Call → Type 0
AllBytes [] = Unit {0}
AllBytes (call ∷ earlier) = Bytes call.content × AllBytes earlier

-- one of the calls has the index
abbrev pub HeardIn : ℕ → List Call → Type 0
HeardIn i [] = ⊥
HeardIn i (call ∷ earlier) = (call.index ≡ i) ⊎ HeardIn i earlier

-- whatever takes answers
pub record Keeper (S : Type 0) : Type 0 where
  -- nothing heard
  pub fresh : S
  -- what an answer with its index makes of it, or a refusal
  pub taking : S → ℕ → List ℕ → Outcome S
  -- complete, or the index that it names
  pub standing : S → Outcome Status
  -- its bytes
  pub list : S → Outcome (List ℕ)

-- what the calls make of a fresh one, a refused one changing nothing
unfoldable pub made : {S : Type 0} → Keeper S → List Call → S
made k [] = k.fresh
made k (call ∷ earlier) = record_of (made k earlier) (k.taking (made k earlier) call.index call.content)

-- those of the calls that were accepted
unfoldable pub taken : {S : Type 0} → Keeper S → List Call → List Call
taken k [] = []
taken k (call ∷ earlier) = if is_accepted (k.taking (made k earlier) call.index call.content) then call ∷ taken k earlier else taken k earlier

-- who answers
pub record Controllers (X : Type 0) : Type 1 where
  -- which of them count
  pub Suits : X → Type 0
  -- "one unchanging list"
  pub list : X → List ℕ
  -- what one answers an index with; there may be several such contents
  pub Answers : X → ℕ → List ℕ → Type 0
  -- a content that is short enough, and has what every answer has
  pub Legal : List ℕ → Type 0

module _ {X : Type 0} (c : Controllers X) (x : X) where
  -- every call is an answer of the controller: "reordered, repeated or lost"
  abbrev pub Explains : List Call → Type 0
  Explains [] = Unit {0}
  Explains (call ∷ earlier) = c.Answers x call.index call.content × Explains earlier

  -- "min(63, n/16 rounded down)"
  abbrev pub last_needed : ℕ
  last_needed = min last_index (length (c.list x) / part_length)

  -- "every index up to" that one "was heard"
  abbrev pub AllHeard : List Call → Type 0
  AllHeard h = (i : ℕ) → i ≤ last_needed → HeardIn i h

  module _ {S : Type 0} (k : Keeper S) where
    -- it says complete, with the list's length, and "its bytes are the list"
    abbrev pub HasList : List Call → Type 0
    HasList h = (k.standing (made k h) ≡ accepted (Complete (length (c.list x)))) × (k.list (made k h) ≡ accepted (c.list x))

    -- "Always asking that one, all heard": each call has the index that was named before it
    abbrev pub Asked : List Call → Type 0
    Asked [] = Unit {0}
    Asked (call ∷ earlier) = ((k.standing (made k earlier) ≡ accepted (Missing call.index)) × c.Answers x call.index call.content) × Asked earlier

-- some controller explains the calls
pub record Explained {X : Type 0} (c : Controllers X) (calls : List Call) : Type 0 where
  pub source : X
  pub suits : c.Suits source
  pub explains : Explains c source calls

-- Demand 3.
pub record Demand3 {S X : Type 0} (k : Keeper S) (c : Controllers X) : Type 0 where
  -- "answers index i, 0 to 63"
  pub answers : (x : X) → c.Suits x → (i : ℕ) → i ≤ last_index → (content : List ℕ) × c.Answers x i content × c.Legal content
  -- "None is refused."
  pub none_refused : (x : X) → c.Suits x → (h : List Call) → Explains c x h → taken k h ≡ h
  -- "It says complete exactly when every index up to min(63, n/16 rounded down) was heard;"
  pub complete_exactly : (x : X) → c.Suits x → (h : List Call) → Explains c x h → ((n : ℕ) × (k.standing (made k h) ≡ accepted (Complete n))) ↔ AllHeard c x h
  -- "then its bytes are the list."
  pub its_list : (x : X) → c.Suits x → (h : List Call) → Explains c x h → AllHeard c x h → HasList c x k h
  -- "Before, it names the lowest unheard index."
  pub names_lowest : (x : X) → c.Suits x → (h : List Call) → Explains c x h → (AllHeard c x h → ⊥) → (i : ℕ) × (k.standing (made k h) ≡ accepted (Missing i)) × (HeardIn i h → ⊥) × ((j : ℕ) → j < i → HeardIn j h)
  -- "Always asking that one, all heard, ends after exactly min(63, n/16 rounded down) + 1 answers." After fewer it names the next, as many as were heard; and an answer to that there is.
  pub asking_ends : (x : X) → c.Suits x → (h : List Call) → Asked c x k h
      → ((length h ≤ last_needed c x) × (k.standing (made k h) ≡ accepted (Missing (length h)))) ⊎ ((length h ≡ suc (last_needed c x)) × HasList c x k h)
  -- "For any answers, one of legal index and length is refused exactly when no list of at most 1,024 bytes explains it together with those accepted."
  pub refused_exactly : (h : List Call) → AllBytes h → (a : Call) → Bytes a.content → a.index ≤ last_index → c.Legal a.content → is_accepted (k.taking (made k h) a.index a.content) ≡ false ↔ (Explained c (a ∷ taken k h) → ⊥)
  -- the same the other way round: where it is accepted, there is such a list
  pub accepted_exactly : (h : List Call) → AllBytes h → (a : Call) → Bytes a.content → a.index ≤ last_index → c.Legal a.content → is_accepted (k.taking (made k h) a.index a.content) ≡ true ↔ Explained c (a ∷ taken k h)

-- The collector of document 01.

-- "one unchanging list of n bytes, n at most 1,024"
pub record IsList (list : List ℕ) : Type 0 where
  pub bytes : Bytes list
  pub size : length list ≤ capacity

-- who answers it: at "index i, 0 to 63, with bytes 16i up to 16i+16 or the end, none beyond it"
abbrev pub controllers : Controllers (List ℕ)
controllers = record { Suits = IsList; list = λ list. list; Answers = λ list i content. (i ≤ last_index) × (answer_of list i ≡ content); Legal = λ content. length content ≤ part_length }

-- its parts, by document 01's definitions; the collector, with what it stores, is `storing` (Stored.antt)
abbrev pub collecting : Keeper Parts
collecting = record { fresh = fresh; taking = taking; standing = standing_of; list = list_of }
