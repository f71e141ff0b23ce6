-- Document 01, "Refusal numbers"; document 02, C-12: "15 WrongChannel"; C-14: "16 BadRecord with the place".
use Rattle.std.specs.Prelude.{ℕ, List, [], ◌∷◌, Result, Ok, Err}
use Rattle.base.specs.Outcome.{Outcome, accepted, refused}
use Rattle.base.specs.declared.refusal.Refusal.{Refusal}
use Rattle.base.specs.declared.refusal.Refusal.TheVariants.{NotEnoughData, TooMuchData, InvalidZeroSession, InvalidAuthType, InvalidPrivilegeLevel, NoChannel, BadIndex, LongName, NoForm, NotARequest, NoRoom, Disagrees, Incomplete, BadLine, WrongChannel, BadRecord}

-- each refusal's number, and the values that it carries
abbrev pub row : Refusal → ℕ × List ℕ
row NotEnoughData = (1, [])
row TooMuchData = (2, [])
row InvalidZeroSession = (3, [])
row (InvalidAuthType byte) = (4, byte ∷ [])
row (InvalidPrivilegeLevel byte) = (5, byte ∷ [])
row NoChannel = (6, [])
row BadIndex = (7, [])
row LongName = (8, [])
row NoForm = (9, [])
row NotARequest = (10, [])
row NoRoom = (11, [])
row Disagrees = (12, [])
row (Incomplete index) = (13, index ∷ [])
row BadLine = (14, [])
row WrongChannel = (15, [])
row (BadRecord place) = (16, place ∷ [])

-- "A refusal returns its number and what its name says it carries"
abbrev pub refusal : {A : Type 0} → Refusal → Outcome A
refusal r = refused (row r).0 (row r).1

-- what an answer comes to: the value, or the refusal's number with what it carries
abbrev pub said : {A : Type 0} → Result A Refusal → Outcome A
said (Ok a) = accepted a
said (Err r) = refusal r
