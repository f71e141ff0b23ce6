-- Laws of Get Session Challenge.
use mathlib.Core.Path.{◌≡◌, refl, sym, ap}
use mathlib.Core.Bool.{Bool, true, false, cond}
use mathlib.Core.List.{List, [], ◌∷◌, ◌++◌, append-nil}
use Prim.Native.Nat.{ℕ, suc, ◌+◌}
use native.Mathlib.Omega.{arith}
use borrow.Author.Tests.{ltb-false}
use lib.Dec.{eqb, ltb}
use lib.ListN.{length, take, drop, length-append, length-drop, length-replicate}
use lib.Seq.{drop-cons}
use Rattle.std.specs.Prelude.{if◌then◌else◌, Option, Some, None, unwrap_or, not, position}
use Rattle.std.specs.List.{position_or_len}
use Rattle.std.proofs.lemmas.List.Sums.{prefix_len-le-length}
use Rattle.base.specs.Field.{Bytes, byte}
use Rattle.base.specs.Little.{little, little_bytes}
use Rattle.base.specs.Named.{named, required}
use Rattle.base.specs.Outcome.{accepted, ◌>>=◌}
use Rattle.base.specs.Written.{padded}
use Rattle.base.proofs.Named.{required_some}
use Rattle.base.proofs.Outcome.{otherwise, when, steps}
use Rattle.base.proofs.Rows.{NoForm, nine, Strict, strict}
use Rattle.base.proofs.little.Laws.{a_byte, are_bytes, bytes_are, bytes_drop, number_back}
use Rattle.auth.specs.Auth.{auth_type_value, auth_types}
use Rattle.auth.specs.Session.{non_zero}
use Rattle.challenge.specs.GetSessionChallenge.{Typed, TypedCommand, challenge, challenge_bytes, challenge_of, command, command_bytes, command_for, command_of, shown}
use Rattle.auth.specs.declared.AuthType.{AuthType}
use Rattle.challenge.specs.declared.get_session_challenge.GetSessionChallenge.{GetSessionChallenge}
use Rattle.challenge.specs.declared.get_session_challenge.SessionChallenge.{SessionChallenge}
use Rattle.auth.proofs.Laws.{auth_again, auth_number_iff}
use Rattle.auth.proofs.Session.{non_zero_only}

-- The name that is shown.

-- what lies before the first zero
pub shown_part : (s : List ℕ) → take (position_or_len (λ b. eqb b 0) s) s ≡ shown s
unfolding shown
shown_part [] = refl
shown_part (b ∷ s) = go (eqb b 0) (shown_part s)
  where
    go : (x : Bool) → take (position_or_len (λ b. eqb b 0) s) s ≡ shown s → take (cond (not x) (1 + position_or_len (λ b. eqb b 0) s) 0) (b ∷ s) ≡ (if x then [] else b ∷ shown s)
    go true e = refl
    go false e =
        let z : 1 + position_or_len (λ b. eqb b 0) s ≡ suc (position_or_len (λ b. eqb b 0) s) = omega arith in
        rw z (ap (λ (r : List ℕ). b ∷ r) e)

-- its end, as the search for a zero gives it
pub shown_end : (s : List ℕ) (found : Option ℕ) → found ≡ position (λ b. eqb b 0) s → unwrap_or found (length s) ≡ position_or_len (λ b. eqb b 0) s
shown_end s found e = rw e (go (ltb end (length s)) refl)
  where
    end : ℕ
    end = position_or_len (λ b. eqb b 0) s

    go : (x : Bool) → ltb end (length s) ≡ x → unwrap_or (cond x (Some end) None) (length s) ≡ end
    go true h = refl
    go false h = let l = ltb-false end (length s) h in let m = prefix_len-le-length (λ b. not (eqb b 0)) s in omega arith

-- The command.

-- Row 10: exactly what some command writes is read, and every other string of bytes is refused 10. What is read holds sixteen bytes.
pub command_strict : Strict command_of (λ k s. TypedCommand k × (command_bytes k ≡ s))
command_strict =
    strict 17 (λ s. required 10 [] (named auth_types (byte 0 s)) >>= λ kind. accepted (command kind (drop 1 s))) _
    (λ s k b l e. let (kind, ek, f) = steps (required 10 [] (named auth_types (byte 0 s))) _ e in
    let z : command kind (drop 1 s) ≡ k = cc in
    rw (← z, (auth_number_iff (byte 0 s) kind).0 (required_some 10 [] (named auth_types (byte 0 s)) ek))
    ((rw length-drop (omega arith), λ j. record { fits = a_byte (drop 1 s) (bytes_drop 1 s b) j }), sym (drop-cons s 0 0 (omega arith))))
    λ s k (h, e). let kind = k.auth_type in
    rw (← e) (((auth_again kind).0, are_bytes k.username h.1), rw h.0, rw ((auth_number_iff (auth_type_value kind) kind).1 refl))

-- every command of the machine is made for some name, its own sixteen bytes
pub command_made : (k : GetSessionChallenge) → TypedCommand k → command_for k.auth_type k.username ≡ accepted k
command_made k h = rw (h.0, append-nil)

-- and a command that is made has a name of sixteen
pub made_sixteen : (kind : AuthType) (name : List ℕ) (k : GetSessionChallenge) → command_for kind name ≡ accepted k → length k.username ≡ 16
made_sixteen kind name k e =
    let (p, f) = otherwise 8 (ltb 16 (length name)) e in
    let z : command kind (padded 16 name) ≡ k = cc in
    let h = ltb-false 16 (length name) p in
    rw (← z, length-append, length-replicate) (omega arith)

-- The response: the reader gives back what the writer wrote, a string of bytes.
pub challenge_back : (c : SessionChallenge) (s : List ℕ) → Typed c → challenge_bytes c ≡ accepted s → Bytes s × (challenge_of s ≡ accepted c)
challenge_back c s h e =
    let id = c.temporary_session_id in
    let (n, en, f) = steps (non_zero 9 c.temporary_session_id) _ e in
    let (p, same) = otherwise 9 (eqb c.temporary_session_id 0) en in
    let z : ◌≡◌ {A = List ℕ} (little_bytes 4 c.temporary_session_id ++ c.challenge_string) s = cc in
    rw (← z) (bytes_are 4 id c.challenge_string (are_bytes c.challenge_string h.string.1), rw (h.string.0, number_back 4 id h.id, p))

-- The writer writes every record that some response gives.
pub challenge_given : (s : List ℕ) (c : SessionChallenge) → challenge_of s ≡ accepted c → (t : List ℕ) × (challenge_bytes c ≡ accepted t)
challenge_given s c e =
    let (_, f) = when 1 (eqb (length s) 20) e in
    let (n, en, g) = steps (non_zero 3 (little (byte 0 s ∷ byte 1 s ∷ byte 2 s ∷ byte 3 s ∷ []))) _ f in
    let (p, same) = otherwise 3 (eqb (little (byte 0 s ∷ byte 1 s ∷ byte 2 s ∷ byte 3 s ∷ [])) 0) en in
    let z : challenge (little (byte 0 s ∷ byte 1 s ∷ byte 2 s ∷ byte 3 s ∷ [])) (drop 4 s) ≡ c = cc in
    rw (← z, p) (_, refl)

-- Row 9: a record is refused 9 exactly where no response, a string of bytes, gives it.
pub challenge_no_form : (c : SessionChallenge) → Typed c → NoForm challenge_of challenge_bytes c
challenge_no_form c h = nine challenge_of challenge_bytes c (non_zero_only c.temporary_session_id _) (λ s e. challenge_back c s h e) (λ s b g. challenge_given s c g)
