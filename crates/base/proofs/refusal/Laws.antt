-- A refusal is known by its number and what it carries.
use mathlib.Core.Path.{◌≡◌, refl}
use mathlib.Core.List.{List, [], ◌∷◌}
use Prim.Native.Nat.{ℕ}
use lib.ListN.{get_or}
use Rattle.base.specs.Refusal.{row}
use Rattle.base.specs.declared.refusal.Refusal.{Refusal}
use Rattle.base.specs.declared.refusal.Refusal.TheVariants.{NotEnoughData, TooMuchData, InvalidZeroSession, InvalidAuthType, InvalidPrivilegeLevel, NoChannel, BadIndex, LongName, NoForm, NotARequest, NoRoom, Disagrees, Incomplete, BadLine, WrongChannel, BadRecord}

-- the column of names, from number 0 on; none has 0
unfoldable pub named : ℕ × List ℕ → Refusal
named r =
    let v : ℕ = get_or r.1 0 0 in
    get_or (BadLine ∷ NotEnoughData ∷ TooMuchData ∷ InvalidZeroSession ∷ InvalidAuthType v ∷ InvalidPrivilegeLevel v ∷ NoChannel ∷ BadIndex ∷ LongName ∷ NoForm ∷ NotARequest ∷ NoRoom ∷ Disagrees ∷ Incomplete v ∷ BadLine ∷ WrongChannel ∷ BadRecord v ∷ []) r.0 BadLine

pub named_row : (r : Refusal) → named (row r) ≡ r
unfolding named
named_row NotEnoughData = refl
named_row TooMuchData = refl
named_row InvalidZeroSession = refl
named_row (InvalidAuthType byte) = refl
named_row (InvalidPrivilegeLevel byte) = refl
named_row NoChannel = refl
named_row BadIndex = refl
named_row LongName = refl
named_row NoForm = refl
named_row NotARequest = refl
named_row NoRoom = refl
named_row Disagrees = refl
named_row (Incomplete index) = refl
named_row BadLine = refl
named_row WrongChannel = refl
named_row (BadRecord place) = refl
