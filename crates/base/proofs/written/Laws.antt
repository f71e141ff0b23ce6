-- Laws of writing to the start of a lent buffer.
use mathlib.Core.Path.{◌≡◌, refl, ◌∙◌}
use mathlib.Core.List.{List, ◌++◌, append-nil, append_assoc}
use Prim.Native.Nat.{ℕ, zero, suc, ◌+◌, ◌-◌, ◌<◌, ◌≤◌}
use native.Mathlib.Numerals.{add-one}
use native.Mathlib.Nat.{zero-add}
use native.Mathlib.Omega.{arith}
use borrow.Author.Tests.{lt-ltb, le-ltb}
use borrow.Rule.Slice.PartMut.{put_mid}
use lib.ListN.{length, get_or, drop, set, replicate, length-replicate, length-append, drop_of_length-le}
use lib.Seq.{paste, paste-suc, take-length, drop-append_seam, take-append_seam, drop-drop}
use Rattle.base.specs.Outcome.{Outcome, accepted}
use Rattle.base.specs.Refusal.{refusal}
use Rattle.base.specs.Written.{Writes, written, length_of, over, padded}
use Rattle.base.specs.declared.refusal.Refusal.{Refusal}
use Rattle.base.specs.declared.refusal.Refusal.TheVariants.{NoRoom}
use Rattle.std.specs.Prelude.{Result, Ok, Err}

-- a message that is refused is answered so, and the buffer is as it was
pub refusing : {message : Outcome (List ℕ)} (r : Refusal) (buffer : List ℕ) → message ≡ refusal r → Writes message (Err r) buffer buffer
unfolding written length_of over
refusing r buffer e = rw e (record { answers = refl; leaves = refl })

-- a turn of the copy: its store of message byte i
pub stored : (d m out : List ℕ) (i : ℕ) → out ≡ paste d 0 m i → i < length d → i < length m → set out i (get_or m i 0) ≡ paste d 0 m (i + 1)
stored d m out i e hd hm = cc (paste-suc d 0 m i 0 (omega arith) hm, add-one i, zero-add i)

-- the copy's end
pub whole : (d m out : List ℕ) (i : ℕ) → out ≡ paste d 0 m i → i ≡ length m → out ≡ m ++ drop (length m) d
whole d m out i e h = e ∙ rw (h, take-length m, zero-add (length m))

-- a buffer that is too short
pub lacking : (message buffer : List ℕ) → length buffer < length message → Writes (accepted message) (Err NoRoom) buffer buffer
unfolding written length_of over
lacking message buffer h = let e = lt-ltb (length buffer) (length message) h in record { answers = simp e; leaves = simp e }

-- one that is not
pub fitting : (message buffer : List ℕ) → length message ≤ length buffer → Writes (accepted message) (Ok (length message)) buffer (message ++ drop (length message) buffer)
unfolding written length_of over
fitting message buffer h = let e = le-ltb (length buffer) (length message) h in record { answers = simp e; leaves = simp e }

pub placed : {message buffer after : List ℕ} {r : Result ℕ Refusal} → Writes (accepted message) r buffer after → length message ≤ length buffer → after ≡ message ++ drop (length message) buffer
unfolding written length_of over
placed {message} {buffer} w h = w.leaves ∙ simp (le-ltb (length buffer) (length message) h)

-- a buffer that is filled whole
pub filled : {message buffer after : List ℕ} {r : Result ℕ Refusal} → Writes (accepted message) r buffer after → length message ≡ length buffer → after ≡ message
filled {message} {buffer} w h =
    let l : length message ≤ length buffer = omega arith in
    let g : length buffer ≤ length message = omega arith in
    placed w l ∙ rw (drop_of_length-le buffer g, append-nil)

drop_zeros : (k n : ℕ) → drop {A = ℕ} k (replicate n 0) ≡ replicate (n - k) 0
drop_zeros zero n = let z : n - 0 ≡ n = omega arith in rw z
drop_zeros (suc k) zero = let z : 0 - suc k ≡ 0 = omega arith in rw z
drop_zeros (suc k) (suc n) = let z : suc n - suc k ≡ n - k = omega arith in rw z (drop_zeros k n)

-- zeros that a message was written over
pub padding : (width : ℕ) {message after : List ℕ} {r : Result ℕ Refusal} → length message ≤ width → Writes (accepted message) r (replicate width 0) after → after ≡ padded width message
padding width {message} h w = placed w (rw (length-replicate {A = ℕ} width 0) h) ∙ rw (drop_zeros (length message) width)

-- two parts: the second is copied behind the first
pub joined : (first second d : List ℕ) → put_mid (length first) (length first + length second - length first) (first ++ drop (length first) d) second ≡ (first ++ second) ++ drop (length (first ++ second)) d
joined first second d =
    let n : length first + length second - length first ≡ length second = omega arith in
    rw
    (n, take-append_seam first (drop (length first) d), drop-append_seam first (drop (length first) d))
    (simp (append_assoc, length-append, drop-drop))
