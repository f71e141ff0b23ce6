-- What a collector heard, its parts. Document 01: "It holds up to 64 parts with their lengths; bytes not heard are zero. The numbers 0x3F, 16 and 1,024 belong to the collector".
use Rattle.std.specs.Prelude.{ℕ, zero, suc, ◌+◌, ◌-◌, ◌*◌, ◌/◌, ◌%◌, min, max, Bool, true, false, List, [], ◌∷◌, length, take, drop, get_or, set, replicate, if◌then◌else◌}
use Rattle.std.proofs.Math.Seq.{paste}
use Rattle.base.specs.Choice.{◌<?◌, ◌=?◌}
use Rattle.base.specs.Outcome.{Outcome, accepted, refused, ◌>>=◌}
use Rattle.collector.specs.Parts.{Parts}
use Rattle.collector.specs.declared.Status.{Status}
use Rattle.collector.specs.declared.Status.TheVariants.{Complete, Missing}

-- "0x3F"
abbrev pub last_index : ℕ
last_index = 0x3F

-- "16"
abbrev pub part_length : ℕ
part_length = 16

-- "1,024"
abbrev pub capacity : ℕ
capacity = 1024

-- indexes 0 to 0x3F
abbrev pub parts : ℕ
parts = capacity / part_length

infixr 30 ◌and◌
infixr 20 ◌or◌
-- both tests pass
abbrev pub ◌and◌ : Bool → Bool → Bool
true and b = b
false and b = false

-- one of them does
abbrev pub ◌or◌ : Bool → Bool → Bool
true or b = true
false or b = b

-- the test passes at each number below n
unfoldable pub all_below : ℕ → (ℕ → Bool) → Bool
all_below zero test = true
all_below (suc n) test = all_below n test and test n

-- Demand 3: a list's answer at index i is its bytes 16 i up to 16 i + 16 or the end.
abbrev pub answer_of : List ℕ → ℕ → List ℕ
answer_of list i = take part_length (drop (part_length * i) list)

-- the parts that are held in two arrays
abbrev pub held : List ℕ → List ℕ → Parts
held bytes marks = record { bytes = bytes; marks = marks }

-- nothing heard
abbrev pub fresh : Parts
fresh = held (replicate capacity 0) (replicate parts 0)

-- A part's mark m is 0 where it was not heard, and one more than its length where it was.

-- where a list ends at the earliest if it has the part of mark m at index i; an unheard or empty part asks for nothing
abbrev pub end_of : ℕ → ℕ → ℕ
end_of i m = if 1 <? m then part_length * i + (m - 1) else 0

-- the least length of a list that has every part heard below index n
unfoldable pub least_to : List ℕ → ℕ → ℕ
least_to marks zero = 0
least_to marks (suc i) = max (least_to marks i) (end_of i (get_or marks i 0))

-- index i was not heard, or its part is as long as that of a list of n bytes
abbrev pub mark_fits : ℕ → ℕ → ℕ → Bool
mark_fits n i m = (m =? 0) or (m =? suc (min part_length (n - part_length * i)))

-- place j belongs to a heard part of mark m, or its byte b is zero
abbrev pub byte_fits : ℕ → ℕ → ℕ → Bool
byte_fits m j b = (suc j <? m) or (b =? 0)

-- the lengths are those of one list
unfoldable pub marks_fit : List ℕ → Bool
marks_fit marks = all_below parts (λ i. mark_fits (least_to marks parts) i (get_or marks i 0))

-- "bytes not heard are zero"
unfoldable pub bytes_fit : List ℕ → List ℕ → Bool
bytes_fit bytes marks = all_below capacity (λ k. byte_fits (get_or marks (k / part_length) 0) (k % part_length) (get_or bytes k 0))

-- the test of the parts: it passes exactly for those that calls make from fresh ones (proofs/Demand.antt)
abbrev pub well_formed : Parts → Bool
well_formed c = marks_fit c.marks and bytes_fit c.bytes c.marks

-- the bytes from place n on begin with the part
unfoldable pub stands_at : List ℕ → ℕ → List ℕ → Bool
stands_at bytes n part = all_below (length part) (λ j. get_or bytes (n + j) 0 =? get_or part j 0)

-- this part was heard at index i
unfoldable pub has_part : Parts → ℕ → List ℕ → Bool
has_part c i part = (get_or c.marks i 0 =? suc (length part)) and stands_at c.bytes (part_length * i) part

-- the part at its place, and its mark
abbrev pub put : Parts → ℕ → List ℕ → Parts
put c i part = held (paste c.bytes (part_length * i) part (length part)) (set c.marks i (suc (length part)))

-- a part of legal index and length: a new one must leave them well-formed; "An equal repeat is accepted and changes nothing"
abbrev pub joining : Parts → ℕ → List ℕ → Outcome Parts
joining c i part =
    if get_or c.marks i 0 =? 0
    then if well_formed (put c i part) then accepted (put c i part) else refused 12 []
    else if has_part c i part then accepted c else refused 12 []

-- the parts after an answer; "Collector: 9, then 7, then 2, then 12"
unfoldable pub taking : Parts → ℕ → List ℕ → Outcome Parts
taking c i part =
    if well_formed c
    then if last_index <? i then refused 7 [] else if part_length <? length part then refused 2 [] else joining c i part
    else refused 9 []

-- the lowest unheard index below n, or n
unfoldable pub lowest : List ℕ → ℕ → ℕ
lowest marks zero = 0
lowest marks (suc n) = if lowest marks n <? n then lowest marks n else if get_or marks n 0 =? 0 then n else suc n

-- every index was heard, or the part before the lowest unheard one is not full: the list ends there
abbrev pub complete_by : List ℕ → Bool
complete_by marks = (lowest marks parts =? parts) or ((0 <? lowest marks parts) and (get_or marks (lowest marks parts - 1) 0 <? suc part_length))

-- by its marks alone
unfoldable pub is_complete : Parts → Bool
is_complete c = complete_by c.marks

-- where they stand: complete, with the list's length, or not, with the lowest unheard index; 9 for "a collector that no calls make from a fresh one"
abbrev pub standing_of : Parts → Outcome Status
standing_of c =
    if well_formed c
    then accepted (if is_complete c then Complete (least_to c.marks parts) else Missing (lowest c.marks parts))
    else refused 9 []

-- the list, or 13 "with the lowest unheard index"
abbrev pub list_by : List ℕ → Status → Outcome (List ℕ)
list_by bytes (Complete n) = accepted (take n bytes)
list_by bytes (Missing i) = refused 13 (i ∷ [])

-- "asked for bytes ..: 9, then 13, then 11" (11 is the writer's)
abbrev pub list_of : Parts → Outcome (List ℕ)
list_of c = do
  standing ← standing_of c
  list_by c.bytes standing
