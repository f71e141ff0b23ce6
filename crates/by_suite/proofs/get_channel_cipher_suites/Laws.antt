-- Laws of the request by suite, and of the answer read alone.
use mathlib.Core.Logic.{◌↔◌}
use mathlib.Core.Path.{◌≡◌, refl, sym, ◌∙◌, ap}
use mathlib.Core.Bool.{Bool, true, false}
use mathlib.Core.List.{List, [], ◌∷◌, ◌++◌, append-nil}
use Prim.Native.Nat.{ℕ, suc, ◌+◌, ◌%◌, ◌≤◌, ◌<◌}
use native.Mathlib.Omega.{arith}
use borrow.Author.Tests.{ltb-true, ltb-false, lt-ltb, le-ltb}
use lib.Dec.{eqb, ltb}
use lib.ListN.{length, take, drop, replicate, length-append, length-take}
use lib.Seq.{take-append_seam}
use Rattle.std.specs.Prelude.{bit_xor, if◌then◌else◌, Result, Ok, Err}
use Rattle.base.specs.Connection.{channel_of, channel_field}
use Rattle.base.specs.Field.{Bytes, byte, within}
use Rattle.base.specs.Outcome.{Outcome, accepted, refused}
use Rattle.base.specs.Refusal.{refusal, said}
use Rattle.base.specs.Written.{Writes, length_of, written}
use Rattle.base.specs.declared.connection.Channel.{Channel}
use Rattle.base.specs.declared.refusal.Refusal.{Refusal}
use Rattle.base.proofs.Outcome.{apart, otherwise, when, unfaulted, Only, steps, only_steps, ranged}
use Rattle.base.proofs.Rows.{NoForm, nine, Strict}
use Rattle.base.proofs.connection.Laws.{channel_iff, channel_small, begins_only}
use Rattle.base.proofs.field.Laws.{below}
use Rattle.base.proofs.written.Laws.{placed}
use Rattle.collector.specs.Collector.{last_index, part_length}
use Rattle.suites.specs.GetChannelCipherSuites.{command_bytes, command_of, command_on, part, suites_bytes, zeros}
use Rattle.suites.specs.declared.get_channel_cipher_suites.ChannelCipherSuites.{ChannelCipherSuites}
use Rattle.suites.specs.declared.get_channel_cipher_suites.ListCommand.{ListCommand}
use Rattle.suites.proofs.get_channel_cipher_suites.Laws.{above, command_no_form, command_strict, suites_back, suites_given, suites_no_form}
use Rattle.by_suite.specs.GetChannelCipherSuites.{Typed, answer, answer_bytes, answer_of, is_channel, list_by_suite, list_in, nibble, number_in}
use Rattle.by_suite.specs.declared.get_channel_cipher_suites.ChannelSuites.{ChannelSuites}

-- The request.

-- Row 10: exactly what some command writes is read, and every other string of bytes is refused 10.
pub by_suite_strict : Strict (command_of list_by_suite) (λ k s. command_bytes list_by_suite k ≡ accepted s)
by_suite_strict = command_strict list_by_suite (above list_by_suite refl refl refl)

-- Refusal 9: a command whose channel no number makes, or whose index is above 0x3F, exactly then.
pub by_suite_no_form : (k : ListCommand list_by_suite) → command_bytes list_by_suite k ≡ refused 9 [] ↔ ((n : ℕ) → channel_of n ≡ accepted k.channel → k.list_index ≤ last_index → ⊥)
by_suite_no_form = command_no_form list_by_suite

-- an index without the bit is none with it
other : (n : ℕ) → n ≤ last_index → last_index < bit_xor list_by_suite n
other n h = ltb-true last_index (bit_xor list_by_suite n) (below 64 (λ n. ltb last_index (bit_xor list_by_suite n)) (λ n. true) refl n (omega arith))

another : (n : ℕ) → bit_xor list_by_suite n ≤ last_index → last_index < n
another n h = go (ltb last_index n) refl
  where
    go : (b : Bool) → ltb last_index n ≡ b → last_index < n
    go true e = ltb-true last_index n e
    go false e = let z = other n (ltb-false last_index n e) in absurd (omega arith)

-- what a command that was read has in its last byte
last_byte : (bit : ℕ) (s : List ℕ) (k : ListCommand bit) → command_of bit s ≡ accepted k
    → (c : Channel) × (eqb (length s) 3 ≡ true) × (channel_of (byte 0 s) ≡ accepted c) × (within 0 0 (byte 1 s) ≡ accepted (byte 1 s)) × (bit_xor bit (byte 2 s) ≤ last_index)
last_byte bit s k e =
    let (l, f) = when 10 (eqb (length s) 3) e in
    let (c, ec, g) = steps (channel_of (byte 0 s)) _ (unfaulted 10 _ f) in
    let (p, ep, h) = steps (within 0 0 (byte 1 s)) (λ payload. command_on bit c (bit_xor bit (byte 2 s))) g in
    let (_, _, same) = ranged (byte 1 s) 0 0 (byte 1 s) 9 {b = p} ep in
    (c, l, ec, ep ∙ ap accepted (sym same), ltb-false last_index (bit_xor bit (byte 2 s)) (otherwise 7 (ltb last_index (bit_xor bit (byte 2 s))) h).0)

-- "bit 7 of the request's last byte": no request by suite is one of the crate's, and the other way round.
pub by_suite_bit : (s : List ℕ) → ((k : ListCommand list_by_suite) → command_of list_by_suite s ≡ accepted k → command_of 0 s ≡ refused 10 [])
    × ((k : ListCommand 0) → command_of 0 s ≡ accepted k → command_of list_by_suite s ≡ refused 10 [])
by_suite_bit s = (
  (λ k e. let (c, l, ec, ep, h) = last_byte list_by_suite s k e in rw (l, ec, ep, lt-ltb last_index (byte 2 s) (another (byte 2 s) h))),
  λ k e. let (c, l, ec, ep, h) = last_byte 0 s k e in rw (l, ec, ep, lt-ltb last_index (bit_xor list_by_suite (byte 2 s)) (other (byte 2 s) h)),
)

-- The channel's number in an answer, by its length.

pub too_long : (s : List ℕ) → 17 < length s → number_in s ≡ refused 2 []
too_long [] h = absurd (omega arith)
too_long (x ∷ l) h = rw (lt-ltb part_length (length l) (omega arith))

pub first_byte : (s : List ℕ) → 0 < length s → length s ≤ 17 → number_in s ≡ (if is_channel (nibble (byte 0 s)) then accepted (nibble (byte 0 s)) else refused 6 [])
first_byte [] h g = absurd (omega arith)
first_byte (x ∷ l) h g = rw (le-ltb part_length (length l) (omega arith))

-- where there is one, it is the first byte's low nibble
pub record NumberOf (d : List ℕ) (n : ℕ) : Type 0 where
  pub some : 0 < length d
  pub short : length (list_in d) ≤ part_length
  pub legal : is_channel n ≡ true
  pub first : nibble (byte 0 d) ≡ n

pub number_of : (d : List ℕ) (n : ℕ) → number_in d ≡ accepted n → NumberOf d n
number_of [] n e = absurd (apart e)
number_of (x ∷ l) n e =
    let (p, f) = otherwise 2 (ltb part_length (length l)) e in
    let (q, g) = when 6 (is_channel (nibble x)) f in
    let z : nibble x ≡ n = cc in
    record { some = omega arith; short = ltb-false part_length (length l) p; legal = rw (← z) q; first = z }

-- The writing, given what its parts do.

module _ (c : ChannelCipherSuites) where
  short : (s : List ℕ) → suites_bytes c ≡ accepted s → length s ≤ part_length
  short s e =
      let (p, f) = otherwise 9 (ltb part_length c.data_length) e in
      let (_, g) = when 9 (zeros (drop c.data_length c.record_data)) f in
      let z : take c.data_length c.record_data ≡ s = cc in
      let h = ltb-false part_length c.data_length p in
      rw (← z, length-take) (omega arith)

  module _ {r : Result ℕ Refusal} {after : List ℕ} (w : Writes (suites_bytes c) r (replicate part_length 0) after) where
    answered : said r ≡ length_of (suites_bytes c)
    unfolding written
    answered = w.answers ∙ go (suites_bytes c) short
      where
        go : (m : Outcome (List ℕ)) → ((s : List ℕ) → m ≡ accepted s → length s ≤ part_length) → length_of (written m (replicate part_length 0)) ≡ length_of m
        go (accepted s) h = rw (le-ltb part_length (length s) (h s refl))
        go (refused n v) h = refl

    -- the list's part was written to the start
    pub part_put : (l : ℕ) → r ≡ Ok l → (l ≤ part_length) × (l ≤ length after) × (suites_bytes c ≡ accepted (take l after))
    unfolding length_of
    part_put l e =
        let (s, f, g) = steps (suites_bytes c) (λ s. accepted (length s)) (sym answered ∙ ap said e) in
        let z : length s ≡ l = cc in
        let h = short s f in
        let rest = drop {A = ℕ} (length s) (replicate part_length 0) in
        let p = placed (rw f at w) h in
        let t = ap (take (length s)) p ∙ take-append_seam s rest in
        (omega arith, omega (arith, ap length p, length-append s rest), f ∙ ap accepted (cc))

    -- or it was refused
    pub part_not : (q : Refusal) → r ≡ Err q → suites_bytes c ≡ refusal q
    unfolding length_of
    part_not q e = go (suites_bytes c) (sym (ap said e) ∙ answered)
      where
        go : (m : Outcome (List ℕ)) → refusal {A = ℕ} q ≡ length_of m → m ≡ refusal q
        go (accepted s) e = absurd (apart e)
        go (refused n v) e = cc

-- its channel stands before it
pub room_before : (n l : ℕ) (after : List ℕ) → l ≤ length after → l + 1 ≤ length (n ∷ (after ++ []))
room_before n l after h = omega (arith, length-append after [])

pub channel_before : (n l : ℕ) (after : List ℕ) → take (l + 1) (n ∷ (after ++ [])) ≡ n ∷ take l after
channel_before n l after = let z : l + 1 ≡ suc l = omega arith in rw (z, append-nil)

pub front_length : (n l : ℕ) (after : List ℕ) → l ≤ length after → l + 1 ≡ length (take (l + 1) (n ∷ (after ++ [])))
front_length n l after h = rw (channel_before n l after) (rw (length-take l after) (omega arith))

-- The answer.

-- The reader gives back what the writer wrote, a string of bytes.
pub answer_back : (a : ChannelSuites) (s : List ℕ) → Typed a → answer_bytes a ≡ accepted s → Bytes s × (answer_of s ≡ accepted a)
unfolding is_channel
answer_back a s t e =
    let (n, en, f) = steps (channel_field a.channel) _ e in
    let (l, el, g) = steps (suites_bytes a.suites) (λ l. accepted (n ∷ l)) f in
    let z : n ∷ l ≡ s = cc in
    let (b, h) = suites_back a.suites l t el in
    let (p, i) = otherwise 2 (ltb part_length (length l)) h in
    let same : part l ≡ a.suites = cc in
    let low = channel_small a.channel n en in
    let nib : nibble n ≡ n = omega arith in
    let c = (channel_iff n a.channel).1 en in
    rw (← z) ((omega arith, b), rw (p, nib, c, c, same))

-- The writer writes every record that some answer gives: that answer, the high nibble of its first byte cleared.
pub answer_given : (s : List ℕ) (a : ChannelSuites) → answer_of s ≡ accepted a → answer_bytes a ≡ accepted (nibble (byte 0 s) ∷ list_in s)
answer_given s a e =
    let (n, en, f) = steps (number_in s) _ e in
    let (c, ec, g) = steps (channel_of n) (λ c. accepted (answer c (part (list_in s)))) f in
    let z : answer c (part (list_in s)) ≡ a = cc in
    let k = number_of s n en in
    rw (← z, (channel_iff n c).0 ec, suites_given (list_in s) (part (list_in s)) (rw (le-ltb part_length (length (list_in s)) k.short)), k.first)

-- Row 9: a record is refused 9 exactly where no answer, a string of bytes, gives it.
pub answer_no_form : (a : ChannelSuites) → Typed a → NoForm answer_of answer_bytes a
answer_no_form a t = nine answer_of answer_bytes a (begins_only a.channel _ λ n. only_steps 9 (suites_bytes a.suites) _ (go (suites_bytes a.suites) refl) λ l. refl) (λ s e. answer_back a s t e) (λ s _ g. (nibble (byte 0 s) ∷ list_in s, answer_given s a g))
  where
    go : (m : Outcome (List ℕ)) → suites_bytes a.suites ≡ m → Only 9 m
    go (accepted l) e = refl
    go (refused n v) e = sym ((suites_no_form a.suites t).1 λ s g. apart (sym e ∙ suites_given s a.suites g.1)) ∙ e

-- "The number in the low nibble": two answers that differ in the high nibble alone read alike.
pub high_nibble : (x y : ℕ) (l : List ℕ) → x % 16 ≡ y % 16 → answer_of (x ∷ l) ≡ answer_of (y ∷ l)
high_nibble x y l e = let same : nibble x ≡ nibble y = omega arith in rw same
