-- Laws of answers to lines.
use mathlib.Core.Path.{◌≡◌, refl, sym, ◌∙◌, ap}
use mathlib.Core.Bool.{Bool, true, false}
use mathlib.Core.List.{List, [], ◌∷◌}
use Prim.Native.Nat.{ℕ, ◌-◌, ◌≤◌, ◌<◌}
use native.Mathlib.Omega.{arith}
use borrow.Author.Tests.{lt-ltb, le-ltb}
use lib.Dec.{ltb}
use lib.ListN.{length, take, drop, length-append, length-drop}
use lib.Seq.{take_all, take-append_seam}
use Rattle.std.specs.List.{starts_with}
use Rattle.std.specs.Prelude.{Result, Ok, Err, IsOk, is_ok, if◌then◌else◌, nat_eq, ◌&&◌}
use Rattle.base.specs.Outcome.{Outcome, accepted, refused, ◌>>=◌}
use Rattle.base.specs.Refusal.{refusal}
use Rattle.base.specs.Written.{Writes, written, length_of, over}
use Rattle.base.specs.declared.refusal.Refusal.{Refusal}
use Rattle.base.proofs.Outcome.{apart}
use Rattle.base.proofs.written.Laws.{placed}
use Rattle.collector.specs.Stored.{fresh_stored, list_stored, taking_stored}
use Rattle.collector.specs.declared.Collector.{Collector}
use Rattle.lines.specs.Lines.{pairs_of}
use Rattle.lines.proofs.Laws.{bytes_at, decimal_fits}
use Rattle.texts.specs.Texts.{block_text}
use Rattle.dump.specs.Dump.{Answers, Said, Says, answering, bad_line, ending, heard, hearing, keeping, listed, longest, reading, saying, word_of}
use Rattle.dump.specs.declared.Answered.{Answered}
use Rattle.dump.specs.declared.Kind.TheVariants.{Block}
use Rattle.dump.specs.declared.Word.TheVariants.{Other}

no : {A : Type 0} → true ≡ false → A
no e = let z : ◌≡◌ {A = ℕ} 0 1 = cc in absurd (omega arith)

-- Words.

none_begins : (b : Bool) → (b && false) ≡ false
none_begins true = refl
none_begins false = refl

short : (a b c : ℕ) (line : List ℕ) → length line < 3 → starts_with nat_eq line (a ∷ b ∷ c ∷ []) ≡ false
short a b c [] h = refl
short a b c (x ∷ []) h = none_begins (nat_eq a x)
short a b c (x ∷ y ∷ []) h = go (nat_eq a x) (nat_eq b y)
  where
    go : (p q : Bool) → (p && (q && false)) ≡ false
    go true q = none_begins q
    go false q = refl
short a b c (x ∷ y ∷ z ∷ line) h = absurd (omega arith)

wordless : (line : List ℕ) → length line < 3 → word_of line ≡ Other
unfolding word_of
wordless line h = rw (short 0x69 0x6E 0x66 line h, short 0x61 0x63 0x63 line h, short 0x63 0x61 0x70 line h, short 0x73 0x75 0x69 line h, short 0x65 0x6E 0x64 line h)

-- What a writer says of its room.

pub had_room : {piece b a : List ℕ} {n : ℕ} → Writes (accepted piece) (Ok n) b a → ltb (length b) (length piece) ≡ false
unfolding written length_of over
had_room {piece} {b} {a} {n} w = go (ltb (length b) (length piece)) w.answers
  where
    go : (t : Bool) → accepted n ≡ (if t then refused 11 [] else accepted piece) >>= (λ x. accepted (length x)) → t ≡ false
    go true e = let z : ◌≡◌ {A = ℕ} 0 1 = cc in absurd (omega arith)
    go false e = refl

pub no_room : {piece b a : List ℕ} {x : Refusal} → Writes (accepted piece) (Err x) b a → ltb (length b) (length piece) ≡ true
unfolding written length_of over
no_room {piece} {b} {a} {x} w = go (ltb (length b) (length piece)) w.answers
  where
    go : (t : Bool) → refusal {A = ℕ} x ≡ (if t then refused 11 [] else accepted piece) >>= (λ x. accepted (length x)) → t ≡ true
    go true e = refl
    go false e = absurd (apart e)

accepted_not : (n m : ℕ) (v b : List ℕ) → accepted n ≡ length_of (written (refused m v) b) → ⊥
unfolding written length_of
accepted_not n m v b e = apart (sym e)

written_long : {piece b a : List ℕ} {n : ℕ} → Writes (accepted piece) (Ok n) b a → length piece ≤ length b → n ≡ length piece
unfolding written length_of over
written_long {piece} {b} {a} {n} w h = let e : ◌≡◌ {A = Outcome ℕ} (accepted n) (accepted (length piece)) = w.answers ∙ simp (le-ltb (length b) (length piece) h) in cc

module _ {piece b a : List ℕ} {r : Result ℕ Refusal} (w : Writes (accepted piece) r b a) (h : length piece ≤ length b) where
  pub never : {X : Type 0} {x : Refusal} → r ≡ Err x → X
  never {X} {x} e = let v : Writes (accepted piece) (Err x) b a = rw e at w in no (sym (no_room v) ∙ le-ltb (length b) (length piece) h)

  pub surely : IsOk r
  surely = go r refl
    where
      go : (o : Result ℕ Refusal) → r ≡ o → IsOk r
      go (Ok n) e = rw e
      go (Err x) e = never e

  pub as_long : (n : ℕ) → r ≡ Ok n → n ≡ length piece
  as_long n e = let v : Writes (accepted piece) (Ok n) b a = rw e at w in written_long v h

  pub stands : (n : ℕ) → r ≡ Ok n → take n a ≡ piece
  stands n e = rw (as_long n e, placed w h) (take-append_seam piece (drop (length piece) b))

pub block_fits : (i n : ℕ) → i < 256 → n < 18446744073709551616 → length (block_text i n) ≤ 64
unfolding block_text
block_fits i n p q =
    let d = decimal_fits i (omega arith) in
    let e = decimal_fits n q in
    rw (length-append, length-append, length-append, length-append) (omega arith)

-- Answers to lines.

alike : {A : Type 0} (x : Bool) (c : A) → c ≡ (if x then c else c)
alike true c = refl
alike false c = refl

module _ (c : Collector) where
  pub kept : {said : Said} {r : Answered} {b a : List ℕ} → Says said r b a → Answers (keeping c said) r b a c c
  kept {said} {r} {b} w = record { says = w; leaves = alike (ltb (length b) (length said.text)) c }

  pub end_written : {r : Answered} {b a : List ℕ} → IsOk r.written → Says (listed (list_stored c)) r b a → Answers (ending c) r b a c fresh_stored
  end_written {r} {b} {a} o w = record { says = w; leaves = go r.written w.writes o }
    where
      go : (v : Result ℕ Refusal) → Writes (accepted (listed (list_stored c)).text) v b a → IsOk v → fresh_stored ≡ (if ltb (length b) (length (listed (list_stored c)).text) then c else fresh_stored)
      go (Ok n) w o = rw (had_room w)
      go (Err x) w o = no (sym o)

  pub end_unwritten : {r : Answered} {b a : List ℕ} → is_ok r.written ≡ false → Says (listed (list_stored c)) r b a → Answers (ending c) r b a c c
  end_unwritten {r} {b} {a} o w = record { says = w; leaves = go r.written w.writes o }
    where
      go : (v : Result ℕ Refusal) → Writes (accepted (listed (list_stored c)).text) v b a → is_ok v ≡ false → c ≡ (if ltb (length b) (length (listed (list_stored c)).text) then c else fresh_stored)
      go (Ok n) w o = no o
      go (Err x) w o = rw (no_room w)

  module _ (i : ℕ) (part : List ℕ) {b a : List ℕ} where
    pub unroomed : {r : Answered} → length b < length (block_text i (length part)) → Says (heard c i part).said r b a → Answers (heard c i part) r b a c c
    unroomed {r} h w = go (taking_stored c i part) w
      where
        go : (o : Outcome Collector) → Says (hearing c i part o).said r b a → Answers (hearing c i part o) r b a c c
        go (accepted t) w = record { says = w; leaves = rw (lt-ltb (length b) (length (block_text i (length part))) h) }
        go (refused n v) w = kept w

    pub heard_taken : {w : Result ℕ Refusal} (left : Collector) → taking_stored c i part ≡ accepted left → length (block_text i (length part)) ≤ length b → Writes (accepted (block_text i (length part))) w b a
        → Answers (heard c i part) (record { kind = Block; written = w }) b a c left
    heard_taken left e h w = rw e (record { says = record { tells = refl; writes = w }; leaves = rw (le-ltb (length b) (length (block_text i (length part))) h) })

    pub text_taken : {w : Result ℕ Refusal} (left : Collector) → taking_stored c i part ≡ accepted left → Writes (accepted (block_text i (length part))) w b a → Says (heard c i part).said (record { kind = Block; written = w }) b a
    text_taken left e w = rw e (record { tells = refl; writes = w })

  -- Lines.

  pub long : (line : List ℕ) → longest < length line → answering c line ≡ bad_line c
  unfolding answering
  long line h = rw (lt-ltb longest (length line) h)

  any : (o : Outcome (List ℕ)) → reading c Other o ≡ bad_line c
  any (accepted bytes) = refl
  any (refused n v) = refl

  pub brief : (line : List ℕ) → length line < 3 → answering c line ≡ bad_line c
  unfolding answering
  brief line h = rw (le-ltb longest (length line) (omega arith), wordless line h) (any (pairs_of (drop 3 line)))

  module _ (line : List ℕ) (l : length line ≤ longest) where
    pub unreadable : {x : Refusal} {b a : List ℕ} → 96 ≤ length b → Writes (pairs_of (drop 3 line)) (Err x) b a → answering c line ≡ bad_line c
    unfolding answering
    unreadable {x} {b} {a} h w = rw (le-ltb longest (length line) l) (go (pairs_of (drop 3 line)) refl w)
      where
        go : (o : Outcome (List ℕ)) → pairs_of (drop 3 line) ≡ o → Writes o (Err x) b a → reading c (word_of line) o ≡ bad_line c
        go (accepted bytes) e w =
            let k = (bytes_at (drop 3 line) bytes e).0 in
            let d = length-drop 3 line in
            let q : length bytes ≤ length b = omega arith in
            never w q refl
        go (refused n v) e w = refl

    pub readable : {n : ℕ} {b a : List ℕ} → 96 ≤ length b → Writes (pairs_of (drop 3 line)) (Ok n) b a → (n ≤ 96) × (pairs_of (drop 3 line) ≡ accepted (take n a))
    readable {n} {b} {a} h w = go (pairs_of (drop 3 line)) refl w
      where
        go : (o : Outcome (List ℕ)) → pairs_of (drop 3 line) ≡ o → Writes o (Ok n) b a → (n ≤ 96) × (o ≡ accepted (take n a))
        go (accepted bytes) e w =
            let k = (bytes_at (drop 3 line) bytes e).0 in
            let d = length-drop 3 line in
            let q : length bytes ≤ length b = omega arith in
            let z = as_long w q n refl in
            (omega arith, ap accepted (sym (stands w q n refl)))
        go (refused m v) e w = absurd (accepted_not n m v b w.answers)

    pub read_as : (bytes : List ℕ) → pairs_of (drop 3 line) ≡ accepted bytes → answering c line ≡ saying c (word_of line) bytes
    unfolding answering
    read_as bytes e = rw (le-ltb longest (length line) l, e)

-- the line behind its word
pub behind : (line : List ℕ) → take (length line - 3) (drop 3 line) ≡ drop 3 line
behind line = let d = length-drop 3 line in take_all (length line - 3) (drop 3 line) (omega arith)
