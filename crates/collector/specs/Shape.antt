-- What the private code computes: the marks' shape, by largest bytes; a judgement of an answer.
use Rattle.std.specs.Prelude.{ℕ, zero, suc, ◌+◌, ◌-◌, ◌*◌, ◌≤◌, ◌<◌, max, Bool, true, false, List, ◌≡◌, length, get_or, if◌then◌else◌, Result, Ok, Err}
use Rattle.base.specs.Choice.{◌<?◌, ◌=?◌}
use Rattle.base.specs.Outcome.{accepted}
use Rattle.base.specs.Refusal.{refusal}
use Rattle.base.specs.declared.refusal.Refusal.{Refusal}
use Rattle.collector.specs.Collector.{◌or◌, last_index, part_length, parts, put, taking, lowest}
use Rattle.collector.specs.Parts.{Parts}
use Rattle.collector.specs.Stored.{parts_of, knowing, taking_stored}
use Rattle.collector.specs.declared.Collector.{Collector}
use Rattle.collector.specs.declared.tested.Judgement.{Judgement}
use Rattle.collector.specs.declared.tested.Judgement.TheVariants.{Store, Keep}
use Rattle.collector.specs.declared.shape.Shape.{Shape}

-- the largest of f 0, .., f (n - 1), or 0
unfoldable pub max_to : (ℕ → ℕ) → ℕ → ℕ
max_to f zero = 0
max_to f (suc n) = max (max_to f n) (f n)

-- j where the part of mark m was heard and is not empty
abbrev pub filled : ℕ → ℕ → ℕ
filled j m = if 1 <? m then j else 0

-- j where it was heard and is not full
abbrev pub partly : ℕ → ℕ → ℕ
partly j m = if m =? 0 then 0 else if m <? suc part_length then j else 0

-- j where it was not heard
abbrev pub free : ℕ → ℕ → ℕ
free j m = if m =? 0 then j else 0

-- one more than the last index below n whose part is not empty, or 0
unfoldable pub top_to : List ℕ → ℕ → ℕ
top_to marks n = max_to (λ i. filled (i + 1) (get_or marks i 0)) n

-- 64 less the first index below n whose heard part is not full, or 0
unfoldable pub gap_to : List ℕ → ℕ → ℕ
gap_to marks n = max_to (λ i. partly (parts - i) (get_or marks i 0)) n

-- the largest mark below n
unfoldable pub most_to : List ℕ → ℕ → ℕ
most_to marks n = max_to (λ i. get_or marks i 0) n

-- 64 less the lowest unheard index below n, or 0
unfoldable pub free_to : List ℕ → ℕ → ℕ
free_to marks n = max_to (λ i. free (parts - i) (get_or marks i 0)) n

-- the largest of n bytes from a place on
unfoldable pub most : List ℕ → ℕ → ℕ → ℕ
most bytes at n = max_to (λ j. get_or bytes (at + j) 0) n

-- the largest byte of the unheard parts among n from part k on
unfoldable pub holes : List ℕ → List ℕ → ℕ → ℕ → ℕ
holes bytes marks k n = max_to (λ i. free (most bytes (part_length * (k + i)) part_length) (get_or marks (k + i) 0)) n

-- the four below n
abbrev pub shape_to : List ℕ → ℕ → Shape
shape_to marks n = record { top = top_to marks n; gap = gap_to marks n; most = most_to marks n; free = free_to marks n }

-- the four of all marks
abbrev pub shape_of : List ℕ → Shape
shape_of marks = shape_to marks parts

-- no part is too long, and none that is not full lies below the last that is not empty
abbrev pub fits : Shape → Bool
fits s = if suc part_length <? s.most then false else if suc parts <? s.top + s.gap then false else true

-- every index was heard, or the first part that is not full stands below the lowest unheard index
abbrev pub complete_shape : Shape → Bool
complete_shape s = (s.free =? 0) or (s.free <? s.gap)

-- the shape is that of the marks, and it fits
pub record ShapeFits (marks : List ℕ) (s : Shape) : Type 0 where
  pub is : s ≡ shape_of marks
  pub fit : fits s ≡ true

-- the shape with one mark more
abbrev pub shape_with : Shape → ℕ → ℕ → Shape
shape_with s i m = record { top = max s.top (filled (i + 1) m); gap = max s.gap (partly (parts - i) m); most = max s.most m; free = max s.free (free (parts - i) m) }

-- every index below n was heard
abbrev pub HeardBelow : List ℕ → ℕ → Type 0
HeardBelow marks n = (i : ℕ) → i < n → get_or marks i 0 ≡ 0 → ⊥

-- what is to be done with an answer
abbrev pub Judged : Parts → ℕ → List ℕ → Result Judgement Refusal → Type 0
Judged c i part (Ok Store) = (taking c i part ≡ accepted (put c i part)) × ((i ≤ last_index) × (length part ≤ part_length))
Judged c i part (Ok Keep) = taking c i part ≡ accepted c
Judged c i part (Err r) = taking c i part ≡ refusal r

-- the same of a collector, which then knows what a search would find
abbrev pub JudgedStored : Collector → ℕ → List ℕ → Result Judgement Refusal → Type 0
JudgedStored k i part (Ok Store) = (taking_stored k i part ≡ accepted (knowing (put (parts_of k) i part))) × ((get_or k.known 0 0 ≡ lowest k.marks parts) × ((i ≤ last_index) × (length part ≤ part_length)))
JudgedStored k i part (Ok Keep) = taking_stored k i part ≡ accepted k
JudgedStored k i part (Err r) = taking_stored k i part ≡ refusal r
