-- Laws of Activate Session.
use mathlib.Core.Path.{◌≡◌, refl, sym, ◌∙◌, ap}
use mathlib.Core.List.{List, [], ◌∷◌, ◌++◌}
use Rattle.std.specs.Prelude.{Some, None}
use Prim.Native.Nat.{ℕ, ◌≤◌}
use native.Mathlib.Omega.{arith}
use borrow.Author.Tests.{le-ltb}
use lib.Dec.{eqb, ltb}
use lib.ListN.{length, take, drop, length-drop, length-take, length-append, take-append-drop}
use lib.Seq.{drop_at, drop-cons, drop-drop, get_or-drop, take_at}
use Rattle.base.specs.Field.{Bytes, bits, byte}
use Rattle.base.specs.Little.{little, little_bytes}
use Rattle.base.specs.Named.{named, required}
use Rattle.base.specs.Outcome.{accepted, refused, ◌>>=◌}
use Rattle.base.proofs.Named.{required_some}
use Rattle.base.proofs.Outcome.{otherwise, steps}
use Rattle.base.proofs.Rows.{NoForm, nine, Strict, strict}
use Rattle.base.proofs.field.Laws.{so_long}
use Rattle.base.proofs.little.Laws.{a_byte, are_bytes, bytes_both, bytes_are, bytes_back, bytes_drop, bytes_take, number_back, number_fits}
use Rattle.activation.specs.ActivateSession.{Typed, TypedCommand, begin_bytes, begin_of, command, command_bytes, command_of}
use Rattle.auth.specs.Auth.{auth_type_of, auth_type_value, auth_types, privileges, privilege_of, privilege_value}
use Rattle.auth.specs.Session.{non_zero}
use Rattle.auth.specs.declared.AuthType.{AuthType}
use Rattle.activation.specs.declared.activate_session.BeginSessionInfo.{BeginSessionInfo}
use Rattle.auth.proofs.Laws.{auth_again, auth_number_iff, nibble_iff, privilege_again}
use Rattle.auth.proofs.Session.{non_zero_only}

-- the last four bytes of a request
pub last_four : (s : List ℕ) → length s ≡ 22 → drop 18 s ≡ byte 18 s ∷ byte 19 s ∷ byte 20 s ∷ byte 21 s ∷ []
last_four s h = sym (so_long (drop 18 s) 4 (rw length-drop (omega arith))) ∙ simp get_or-drop

-- The command.

-- a request, field by field
parts : (s : List ℕ) → length s ≡ 22 → byte 0 s ∷ byte 1 s ∷ take 16 (drop 2 s) ++ drop 18 s ≡ s
parts s h =
    sym (drop-cons s 0 0 (omega arith) ∙ ap (λ (r : List ℕ). byte 0 s ∷ r) (drop-cons s 1 0 (omega arith) ∙ ap (λ (r : List ℕ). byte 1 s ∷ r) (sym (take-append-drop 16 (drop 2 s)) ∙ rw drop-drop)))

-- Row 10: exactly what some command writes is read, and every other string of bytes is refused 10. What is read holds sixteen bytes and a number of four.
pub command_strict : Strict command_of (λ k s. TypedCommand k × (command_bytes k ≡ s))
command_strict =
    strict 22 (λ s. required 10 [] (named auth_types (byte 0 s)) >>= λ kind. required 10 [] (named privileges (byte 1 s)) >>= λ level. accepted (command kind level (take 16 (drop 2 s)) (little (drop 18 s)))) _
    (λ s k b h e. let (kind, ek, f) = steps (required 10 [] (named auth_types (byte 0 s))) _ e in
    let (level, el, g) = steps (required 10 [] (named privileges (byte 1 s))) _ f in
    let z : command kind level (take 16 (drop 2 s)) (little (drop 18 s)) ≡ k = cc in
    let four : length (drop 18 s) ≡ 4 = rw length-drop (omega arith) in
    let last = bytes_drop 18 s b in
    rw (← z, (auth_number_iff (byte 0 s) kind).0 (required_some 10 [] (named auth_types (byte 0 s)) ek), (nibble_iff (byte 1 s) level).0 (required_some 10 [] (named privileges (byte 1 s)) el), rw four at (bytes_back (drop 18 s) last))
    (record { challenge = (simp (length-take, length-drop) (omega arith), λ j. record { fits = a_byte (take 16 (drop 2 s)) (bytes_take 16 (drop 2 s) (bytes_drop 2 s b)) j }); first = rw four at (number_fits (drop 18 s) last) }, parts s h))
    λ s k (h, e). let kind = k.auth_type in
    let level = k.maximum_privilege_level in
    let challenge = k.challenge_string in
    let n = k.initial_sequence_number in
    rw (← e)
    (((auth_again kind).0, ((privilege_again level).0, bytes_both challenge (little_bytes 4 n) (are_bytes challenge h.challenge.1) (bytes_are 4 n [] tt))), rw (length-append challenge (little_bytes 4 n), h.challenge.0), rw ((auth_number_iff (auth_type_value kind) kind).1 refl, (nibble_iff (privilege_value level) level).1 refl, take_at challenge (little_bytes 4 n) 16 h.challenge.0, drop_at challenge (little_bytes 4 n) 16 h.challenge.0, number_back 4 n h.first))

-- The response: the reader gives back what the writer wrote, a string of bytes.
pub begin_back : (b : BeginSessionInfo) (s : List ℕ) → Typed b → begin_bytes b ≡ accepted s → Bytes s × (begin_of s ≡ accepted b)
begin_back b s h e =
    let kind = b.auth_type in
    let id = b.session_id in
    let first = b.initial_sequence_number in
    let level = b.maximum_privilege_level in
    let (m, em, f) = steps (non_zero 9 b.session_id) _ e in
    let (p, same) = otherwise 9 (eqb b.session_id 0) em in
    let z : ◌≡◌ {A = List ℕ} (auth_type_value b.auth_type ∷ little_bytes 4 b.session_id ++ little_bytes 4 b.initial_sequence_number ++ privilege_value b.maximum_privilege_level ∷ []) s = cc in
    rw (← z)
    (((auth_again kind).0, bytes_are 4 id (little_bytes 4 first ++ privilege_value level ∷ []) (bytes_are 4 first (privilege_value level ∷ []) ((privilege_again level).0, tt))), rw ((auth_again kind).1, number_back 4 id h.id, p, (privilege_again level).1, number_back 4 first h.first))

-- The writer writes every record that some response gives.
pub begin_given : (s : List ℕ) (b : BeginSessionInfo) → begin_of s ≡ accepted b → (t : List ℕ) × (begin_bytes b ≡ accepted t)
begin_given s b e =
    let (_, f) = otherwise 1 (ltb (length s) 10) e in
    let (kind, ek, g) = steps (required 4 (byte 0 s ∷ []) (auth_type_of (byte 0 s))) _ f in
    let (id, ei, h) = steps (non_zero 3 (little (byte 1 s ∷ byte 2 s ∷ byte 3 s ∷ byte 4 s ∷ []))) _ g in
    let (level, el, i) = steps (required 5 (byte 9 s ∷ []) (privilege_of (byte 9 s))) _ h in
    let (p, same) = otherwise 3 (eqb (little (byte 1 s ∷ byte 2 s ∷ byte 3 s ∷ byte 4 s ∷ [])) 0) ei in
    let z : little (byte 1 s ∷ byte 2 s ∷ byte 3 s ∷ byte 4 s ∷ []) ≡ b.session_id = cc in
    rw (← z, p) (_, refl)

-- Row 9: a record is refused 9 exactly where no response, a string of bytes, gives it.
pub begin_no_form : (b : BeginSessionInfo) → Typed b → NoForm begin_of begin_bytes b
begin_no_form b h = nine begin_of begin_bytes b (non_zero_only b.session_id _) (λ s e. begin_back b s h e) (λ s _ g. begin_given s b g)

-- C-18. Where the low nibble of the authentication byte names a type, the answer is that of the byte without its high nibble ..
pub reserved_ignored : (b : ℕ) (rest : List ℕ) (kind : AuthType) → auth_type_of b ≡ Some kind → begin_of (b ∷ rest) ≡ begin_of (bits 0 4 b ∷ rest)
reserved_ignored b rest kind e = let z : bits 0 4 (bits 0 4 b) ≡ bits 0 4 b = omega arith in rw (z, e)

-- .. and where it names none, 4 carries the whole byte.
pub whole_byte_carried : (b : ℕ) (rest : List ℕ) → 9 ≤ length rest → auth_type_of b ≡ None → begin_of (b ∷ rest) ≡ refused 4 (b ∷ [])
whole_byte_carried b rest h e = rw (le-ltb (length (b ∷ rest)) 10 (omega arith), e)
