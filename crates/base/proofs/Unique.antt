-- Any two outcomes that a public function's promise allows at the same arguments coincide.
-- An outcome is the result and the last value of each parameter: of a `&mut` what it refers to at exit, of any other nothing.
use mathlib.Core.Path.{◌≡◌, refl, sym, ◌∙◌, ap}
use mathlib.Core.List.{List}
use Prim.Native.Nat.{ℕ, zero, suc}
use contract.Lifetimes.{Lfts}
use borrow.Fn.Kinds.{ParamKind, ResultKind, In, Out, Dens, res_t, ended_of}
use denote.Ref.{Bor}
use mir.Syntax.{Width, w64}
use mir.Val.{Fits}
use denote.Triple.Clauses.{Lasts, at_exit}
use Rattle.base.specs.Outcome.{Outcome}
use Rattle.std.specs.Prelude.{Result}
use Rattle.base.specs.Written.{Writes}
use Rattle.base.specs.declared.refusal.Refusal.{Refusal}
use Rattle.base.proofs as p
use Rattle.base.proofs.Said.{said_one}

-- over the generated `Reads` of a function: `Asked` is what its `requires` asks of a caller, `Learnt` what its `ensures` tell one
abbrev pub Unique : {n : ℕ} (ps : List (ParamKind n)) (r : ResultKind n) → In n ps → Out n ps r → Type 0
Unique {n} ps r Asked Learnt =
    (κs : Lfts n) (a : Dens κs ps) → Asked κs a
    → (z z' : (res_t r κs).Denot) (w w' : Lasts (ended_of n ps r) κs a)
    → Learnt κs a z (at_exit (ended_of n ps r) κs a w) → Learnt κs a z' (at_exit (ended_of n ps r) κs a w')
    → (z ≡ z') × (w ≡ w')

-- the same of a function that returns a part of lent bytes: where it lies, and its bytes. A reference has besides only a name in proofs.
abbrev pub UniquePart : {n : ℕ} (ps : List (ParamKind n)) (r : ResultKind n) → In n ps → Out n ps r → ((κs : Lfts n) → (res_t r κs).Denot → Bor (List ℕ)) → Type 0
UniquePart {n} ps r Asked Learnt part =
    (κs : Lfts n) (a : Dens κs ps) → Asked κs a
    → (z z' : (res_t r κs).Denot) (w w' : Lasts (ended_of n ps r) κs a)
    → Learnt κs a z (at_exit (ended_of n ps r) κs a w) → Learnt κs a z' (at_exit (ended_of n ps r) κs a w')
    → (((part κs z).ref_ptr ≡ (part κs z').ref_ptr) × ((part κs z).now ≡ (part κs z').now)) × (w ≡ w')

-- the same of a function that is generic over a number of so many bits: at each
abbrev pub UniqueEach : {n : ℕ} (w : Width) (ps : (k : ℕ) → Fits w k → List (ParamKind n)) (r : (k : ℕ) → Fits w k → ResultKind n)
    → ((k : ℕ) (f : Fits w k) → In n (ps k f)) → ((k : ℕ) (f : Fits w k) → Out n (ps k f) (r k f)) → Type 0
UniqueEach w ps r Asked Learnt = (k : ℕ) (f : Fits w k) → Unique (ps k f) (r k f) (Asked k f) (Learnt k f)

pub both {ℓ} : {A : Type ℓ} {x y z : A} → x ≡ z → y ≡ z → x ≡ y
both e f = e ∙ sym f

-- The last values of parameters of which only a buffer, behind k others, has one.

abbrev pub Last : ℕ → Type 0
Last zero = List ℕ × Unit {0}
Last (suc k) = Unit {0} × Last k

abbrev pub last : (k : ℕ) → List ℕ → Last k
last zero buffer = (buffer, tt)
last (suc k) buffer = (tt, last k buffer)

-- a writer, whose buffer stands behind k parameters
pub writer : (k : ℕ) {message : Outcome (List ℕ)} {r r' : Result ℕ Refusal} {before after after' : List ℕ} → Writes message r before after → Writes message r' before after'
    → (r ≡ r') × (last k after ≡ last k after')
writer k {r} {r'} q q' = (said_one r r' (both q.answers q'.answers), ap (last k) (both q.leaves q'.leaves))

pub bits_unique : Unique p.field.bits.Kinds.ps p.field.bits.Kinds.r p.field.bits.Reads.Asked p.field.bits.Reads.Learnt
bits_unique κs a ok z z' w w' q q' = (both q q', refl)

pub flag_unique : Unique p.field.flag.Kinds.ps p.field.flag.Kinds.r p.field.flag.Reads.Asked p.field.flag.Reads.Learnt
flag_unique κs a ok z z' w w' q q' = (both q q', refl)

pub within_unique : Unique p.field.within.Kinds.ps p.field.within.Kinds.r p.field.within.Reads.Asked p.field.within.Reads.Learnt
within_unique κs a ok z z' w w' q q' = (said_one z z' (both q q'), refl)

pub flags_unique : Unique p.field.flags.Kinds.ps p.field.flags.Kinds.r p.field.flags.Reads.Asked p.field.flags.Reads.Learnt
flags_unique κs a ok z z' w w' q q' = (both q q', refl)

pub number_unique : Unique p.little.number.Kinds.ps p.little.number.Kinds.r p.little.number.Reads.Asked p.little.number.Reads.Learnt
number_unique κs a ok z z' w w' q q' = (both q q', refl)

pub bytes_unique : UniqueEach w64 p.little.bytes.Kinds.ps p.little.bytes.Kinds.r p.little.bytes.Reads.Asked p.little.bytes.Reads.Learnt
bytes_unique width f κs a ok z z' w w' q q' = (both q q', refl)

pub refusal_number_unique : Unique p.refusal.Refusal.number.Kinds.ps p.refusal.Refusal.number.Kinds.r p.refusal.Refusal.number.Reads.Asked p.refusal.Refusal.number.Reads.Learnt
refusal_number_unique κs a ok z z' w w' q q' = (both q q', refl)

pub refusal_carried_unique : Unique p.refusal.Refusal.carried.Kinds.ps p.refusal.Refusal.carried.Kinds.r p.refusal.Refusal.carried.Reads.Asked p.refusal.Refusal.carried.Reads.Learnt
refusal_carried_unique κs a ok z z' w w' q q' = (both q q', refl)

pub digit_unique : Unique p.text.digit.Kinds.ps p.text.digit.Kinds.r p.text.digit.Reads.Asked p.text.digit.Reads.Learnt
digit_unique κs a ok z z' w w' q q' = (both q q', refl)

pub coded_unique : Unique p.text.coded.Kinds.ps p.text.coded.Kinds.r p.text.coded.Reads.Asked p.text.coded.Reads.Learnt
coded_unique κs a ok z z' w w' q q' = writer 2 q q'

pub join_unique : Unique p.written.join.Kinds.ps p.written.join.Kinds.r p.written.join.Reads.Asked p.written.join.Reads.Learnt
join_unique κs a ok z z' w w' q q' = writer 2 q q'

pub place_unique : Unique p.written.place.Kinds.ps p.written.place.Kinds.r p.written.place.Reads.Asked p.written.place.Reads.Learnt
place_unique κs a ok z z' w w' q q' = writer 1 q q'

pub channel_number_new_unique : Unique p.connection.ChannelNumber.new.Kinds.ps p.connection.ChannelNumber.new.Kinds.r p.connection.ChannelNumber.new.Reads.Asked p.connection.ChannelNumber.new.Reads.Learnt
channel_number_new_unique κs a ok z z' w w' q q' = (said_one z z' (both q q'), refl)

pub channel_number_value_unique : Unique p.connection.ChannelNumber.value.Kinds.ps p.connection.ChannelNumber.value.Kinds.r p.connection.ChannelNumber.value.Reads.Asked p.connection.ChannelNumber.value.Reads.Learnt
channel_number_value_unique κs a ok z z' w w' q q' = (both q q', refl)

pub channel_new_unique : Unique p.connection.Channel.new.Kinds.ps p.connection.Channel.new.Kinds.r p.connection.Channel.new.Reads.Asked p.connection.Channel.new.Reads.Learnt
channel_new_unique κs a ok z z' w w' q q' = (said_one z z' (both q q'), refl)

pub channel_value_unique : Unique p.connection.Channel.value.Kinds.ps p.connection.Channel.value.Kinds.r p.connection.Channel.value.Reads.Asked p.connection.Channel.value.Reads.Learnt
channel_value_unique κs a ok z z' w w' q q' = (both q q', refl)

pub channel_field_unique : Unique p.connection.Channel.field.Kinds.ps p.connection.Channel.field.Kinds.r p.connection.Channel.field.Reads.Asked p.connection.Channel.field.Reads.Learnt
channel_field_unique κs a ok z z' w w' q q' = (said_one z z' (both q q'), refl)

pub channel_text_unique : Unique p.connection.Channel.text.Kinds.ps p.connection.Channel.text.Kinds.r p.connection.Channel.text.Reads.Asked p.connection.Channel.text.Reads.Learnt
channel_text_unique κs a ok z z' w w' q q' = writer 1 q q'

pub logical_unit_from_low_bits_unique : Unique p.connection.LogicalUnit.from_low_bits.Kinds.ps p.connection.LogicalUnit.from_low_bits.Kinds.r p.connection.LogicalUnit.from_low_bits.Reads.Asked p.connection.LogicalUnit.from_low_bits.Reads.Learnt
logical_unit_from_low_bits_unique κs a ok z z' w w' q q' = (cc, refl)

pub logical_unit_try_from_unique : Unique p.connection.LogicalUnitTryFromU8.try_from.Kinds.ps p.connection.LogicalUnitTryFromU8.try_from.Kinds.r p.connection.LogicalUnitTryFromU8.try_from.Reads.Asked p.connection.LogicalUnitTryFromU8.try_from.Reads.Learnt
logical_unit_try_from_unique κs a ok z z' w w' q q' = (both q q', refl)

pub logical_unit_value_unique : Unique p.connection.LogicalUnit.value.Kinds.ps p.connection.LogicalUnit.value.Kinds.r p.connection.LogicalUnit.value.Reads.Asked p.connection.LogicalUnit.value.Reads.Learnt
logical_unit_value_unique κs a ok z z' w w' q q' = (both q q', refl)
