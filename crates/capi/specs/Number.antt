-- The number that a C function returns, and what C reads from it.
use Rattle.std.specs.Prelude.{ℕ, ◌+◌, ◌-◌, ◌*◌, ◌/◌, ◌%◌, ◌^◌, Bool, not, ◌≡◌, List, if◌then◌else◌, Option, Some, None}
use Rattle.base.specs.Choice.{◌<?◌, ◌=?◌}
use Rattle.base.specs.Field.{byte}
use Rattle.base.specs.Outcome.{Outcome, accepted, refused}
use Rattle.base.specs.Verdict.{record_of}
use Rattle.base.specs.Written.{length_of, over, written}
use Rattle.collector.specs.declared.Status.{Status}
use Rattle.collector.specs.declared.Status.TheVariants.{Complete, Missing}

-- Three numbers that no count and no length is: no slice is as long.

-- set in a refusal
abbrev pub refused_bit : ℕ
refused_bit = 2 ^ 63

-- "answers none": GHJ_NONE
abbrev pub none_bit : ℕ
none_bit = 2 ^ 62

-- set in a status that is not complete
abbrev pub missing_bit : ℕ
missing_bit = 2 ^ 61

-- the most that fits between the top bit and the low byte. No list is as long: no machine has as much memory
abbrev pub carried_limit : ℕ
carried_limit = 2 ^ 55 - 1

-- the smaller of two numbers
abbrev pub at_most : ℕ → ℕ → ℕ
at_most limit n = if limit <? n then limit else n

-- what was accepted; or the top bit, the refusal's number in the low byte, and above that the byte or place that it carries:
-- the limit says that the place is at least so far
abbrev pub code : Outcome ℕ → ℕ
code (accepted n) = n
code (refused number carried) = refused_bit + number + 256 * at_most carried_limit (byte 0 carried)

-- a verdict alone: 0 where it is accepted
abbrev pub plain : {A : Type 0} → Outcome A → Outcome ℕ
plain (accepted a) = accepted 0
plain (refused number carried) = refused number carried

-- where a collector stands: its list's length, or the bit and the lowest unheard index
abbrev pub standing : Outcome Status → Outcome ℕ
standing (accepted (Complete n)) = accepted n
standing (accepted (Missing i)) = accepted (missing_bit + i)
standing (refused number carried) = refused number carried

-- "answers none, which counts as accepted": the number of what there is, or the bit
abbrev pub or_none : {A : Type 0} → (A → ℕ) → Outcome (Option A) → Outcome ℕ
or_none number (accepted (Some a)) = accepted (number a)
or_none number (accepted None) = accepted none_bit
or_none number (refused n carried) = refused n carried

-- The promise of a C function by which a collector takes an answer: its number, and the collector before and after.
pub record Takes {A : Type 0} (taken : Outcome A) (number : ℕ) (before after : A) : Type 0 where
  pub answers : number ≡ code (plain taken)
  pub leaves : after ≡ record_of before taken

-- The promise of every C function that writes a message: its number, and the buffer before and after.
pub record Codes (message : Outcome (List ℕ)) (number : ℕ) (before after : List ℕ) : Type 0 where
  pub answers : number ≡ code (length_of (written message before))
  pub leaves : after ≡ over before (written message before)

-- what a C function that may answer none returns, and what it leaves in the buffer

-- its number
abbrev pub code_any : Outcome (Option (List ℕ)) → List ℕ → ℕ
code_any (accepted (Some bytes)) buffer = code (length_of (written (accepted bytes) buffer))
code_any (accepted None) buffer = none_bit
code_any (refused number carried) buffer = code (refused number carried)

-- the buffer: none, like a refusal, leaves it as it was
abbrev pub over_any : List ℕ → Outcome (Option (List ℕ)) → List ℕ
over_any buffer (accepted (Some bytes)) = over buffer (written (accepted bytes) buffer)
over_any buffer (accepted None) = buffer
over_any buffer (refused number carried) = buffer

-- The promise of one that writes a message or answers none.
pub record CodesAny (message : Outcome (Option (List ℕ))) (number : ℕ) (before after : List ℕ) : Type 0 where
  pub answers : number ≡ code_any message before
  pub leaves : after ≡ over_any before message

-- What C reads from a number: the macros of include/ghjalvestru.h, as they stand there. proofs/Reading.antt says that they give back what was coded.

-- GHJ_IS_REFUSED: number >> 63 != 0
abbrev pub is_refused : ℕ → Bool
is_refused number = not (number / 2 ^ 63 =? 0)

-- GHJ_REFUSAL: number & 0xFF
abbrev pub refusal_in : ℕ → ℕ
refusal_in number = number % 2 ^ 8

-- GHJ_CARRIED: bits 62 to 8
abbrev pub carried_in : ℕ → ℕ
carried_in number = number % 2 ^ 63 / 2 ^ 8

-- GHJ_NONE: 1 << 62
abbrev pub is_none : ℕ → Bool
is_none number = number =? 2 ^ 62

-- GHJ_IS_MISSING: number >> 61 == 1
abbrev pub is_missing : ℕ → Bool
is_missing number = number / 2 ^ 61 =? 1

-- GHJ_MISSING: number & 0xFF
abbrev pub missing_in : ℕ → ℕ
missing_in number = number % 2 ^ 8
