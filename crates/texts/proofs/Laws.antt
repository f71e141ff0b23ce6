-- Laws of a text that is built a piece at a time.
use mathlib.Core.Path.{◌≡◌, refl, sym, ◌∙◌}
use mathlib.Core.Bool.{Bool, true, false}
use mathlib.Core.List.{List, [], ◌∷◌, ◌++◌, append_assoc, append-nil}
use Prim.Native.Nat.{ℕ, suc, ◌+◌, ◌-◌, ◌≤◌, ◌<◌}
use native.Mathlib.Numerals.{add-one}
use native.Mathlib.Omega.{arith}
use borrow.Author.Tests.{ltb-true, ltb-false, lt-ltb, le-ltb}
use borrow.Rule.Slice.PartMut.{mid_of, put_mid, mid_len}
use lib.Dec.{ltb}
use lib.ListN.{length, get_or, take, drop, take-append-drop, length-append, length-drop, drop_of_length-le}
use lib.Seq.{take-suc, drop-cons, drop-length, length-take-le, take_all, take_at, drop_at, drop-drop}
use Rattle.std.specs.Prelude.{Result, Ok, Err}
use Rattle.base.specs.Outcome.{accepted}
use Rattle.base.specs.Refusal.{said}
use Rattle.base.specs.Connection.{channel_text}
use Rattle.base.specs.Text.{ascii, hex2}
use Rattle.base.specs.Written.{Writes, written, length_of, over}
use Rattle.base.specs.declared.refusal.Refusal.{Refusal}
use Rattle.base.proofs.Outcome.{apart}
use Rattle.base.proofs.written.Laws.{fitting, placed}
use Rattle.info.specs.declared.get_channel_info.ChannelInfo.{ChannelInfo}
use Rattle.media.specs.Media.{medium_text, protocol_text, session_text}
use Rattle.lines.specs.Lines.{decimal, space}
use Rattle.texts.specs.Appends.{Appends, wrote}
use Rattle.texts.specs.Texts.{info_text, spaced, suites_text}

-- what is written where there is room
said_length : (r : Result ℕ Refusal) (n : ℕ) → said r ≡ accepted n → wrote r ≡ n
said_length (Ok m) n e = cc
said_length (Err r) n e = absurd (apart e)

wrote_all : {piece before after : List ℕ} {r : Result ℕ Refusal} → Writes (accepted piece) r before after → length piece ≤ length before → wrote r ≡ length piece
unfolding written length_of over
wrote_all {piece} {before} {r} w h = said_length r (length piece) (w.answers ∙ simp (le-ltb (length before) (length piece) h))

-- a piece that a writer puts behind what stands
module _ (room : ℕ) (t : List ℕ) (at : ℕ) (whole : length t ≡ room) (piece part : List ℕ) {r : Result ℕ Refusal} (w : Writes (accepted piece) r (mid_of at (room - at) t) part) (fits : at + length piece ≤ room) where
  behind_length : length (mid_of at (room - at) t) ≡ room - at
  behind_length = mid_len at room t (omega arith)

  pub wrote_behind : wrote r ≡ length piece
  wrote_behind = wrote_all w (rw behind_length (omega arith))

  put_behind : part ≡ piece ++ drop (length piece) (mid_of at (room - at) t) → put_mid at (room - at) t part ≡ (take at t ++ piece) ++ drop (at + length piece) t
  put_behind p =
      let d : length (drop at t) ≤ room - at = rw length-drop (omega arith) in
      rw (p, drop_of_length-le (drop at t) d, take_all (room - at) (drop at t) d, append-nil, drop-drop, append_assoc)

  pub stands_behind : put_mid at (room - at) t part ≡ (take at t ++ piece) ++ drop (at + length piece) t
  stands_behind = put_behind (placed w (rw behind_length (omega arith)))

  pub shown : take (at + wrote r) (put_mid at (room - at) t part) ≡ take at t ++ piece
  shown =
      let l : length (take at t ++ piece) ≡ at + length piece = rw (length-append, length-take-le at t (omega arith)) in
      rw (wrote_behind, stands_behind) (take_at (take at t ++ piece) (drop (at + length piece) t) (at + length piece) l)

-- the whole buffer behind a piece
pub standing : (piece before after : List ℕ) (at end : ℕ) → end ≡ at + length piece → end ≤ length before → after ≡ (take at before ++ piece) ++ drop end before → Appends piece before at after end
standing piece before after at end m f e =
    let t : length (take at before) ≡ at = length-take-le at before (omega arith) in
    let l : length (take at before ++ piece) ≡ end = length-append (take at before) piece ∙ omega arith in
    let d : length (drop end before) ≡ length before - end = length-drop end before in
    record {
      moves = m;
      fits = f;
      keeps = rw (e, length-append (take at before ++ piece) (drop end before)) (omega arith);
      holds = rw e (take_at (take at before ++ piece) (drop end before) end l);
      rest = rw e (drop_at (take at before ++ piece) (drop end before) end l);
    }

pub appended : (t : List ℕ) (at : ℕ) (piece part : List ℕ) {r : Result ℕ Refusal} (end : ℕ) → Writes (accepted piece) r (mid_of at (length t - at) t) part → at + length piece ≤ length t → end ≡ at + wrote r
    → Appends piece t at (put_mid at (length t - at) t part) end
appended t at piece part {r} end w h e =
    let n : wrote r ≡ length piece = wrote_behind (length t) t at refl piece part w h in
    let k : end ≡ at + length piece = omega arith in
    standing piece t (put_mid at (length t - at) t part) at end k (omega arith) (rw k (stands_behind (length t) t at refl piece part w h))

-- one piece behind another
infixl 20 ◌then◌
pub ◌then◌ : {p q before middle after : List ℕ} {at end end' : ℕ} → Appends p before at middle end → Appends q middle end after end' → Appends (p ++ q) before at after end'
◌then◌ {p} {q} {before} {middle} {after} {at} {end} {end'} a b =
    record {
      moves = rw length-append (omega arith);
      fits = omega arith;
      keeps = b.keeps ∙ a.keeps;
      holds = b.holds ∙ rw (a.holds, append_assoc (take at before) p q);
      rest = b.rest ∙ rw (b.moves, ← drop-drop (length q) end middle, a.rest, drop-drop (length q) end before);
    }

-- nothing is added
pub still : (t : List ℕ) (at : ℕ) → at ≤ length t → Appends [] t at t at
still t at h = record { moves = omega arith; fits = h; keeps = refl; holds = sym (append-nil (take at t)); rest = refl }

-- a text that was built in the lent buffer itself
pub written_whole : {piece before after : List ℕ} {end : ℕ} → Appends piece before 0 after end → Writes (accepted piece) (Ok end) before after
written_whole {piece} {before} {after} {end} a =
    let m : end ≡ length piece = omega arith in
    let e : after ≡ piece ++ drop (length piece) before = sym (take-append-drop end after) ∙ rw (a.holds, a.rest, m) in
    rw (e, m) (fitting piece before (omega arith))

-- Numbers with a space before each.

spaced_more : (numbers : List ℕ) (n : ℕ) → spaced (numbers ++ (n ∷ [])) ≡ spaced numbers ++ (space ∷ decimal n)
unfolding spaced
spaced_more [] n = append-nil (space ∷ decimal n)
spaced_more (x ∷ numbers) n = rw (spaced_more numbers n) (sym (append_assoc (space ∷ decimal x) (spaced numbers) (space ∷ decimal n)))

module _ (numbers : List ℕ) (i : ℕ) (h : i < length numbers) where
  pub spaced_next : spaced (take (i + 1) numbers) ≡ spaced (take i numbers) ++ (space ∷ decimal (get_or numbers i 0))
  spaced_next = rw (add-one i, take-suc numbers i 0 h) (spaced_more (take i numbers) (get_or numbers i 0))

  pub spaced_rest : length (spaced (drop i numbers)) ≡ length (space ∷ decimal (get_or numbers i 0)) + length (spaced (drop (i + 1) numbers))
  unfolding spaced
  spaced_rest = rw (add-one i, drop-cons numbers i 0 h) (length-append (space ∷ decimal (get_or numbers i 0)) (spaced (drop (suc i) numbers)))

pub spaced_none : (numbers : List ℕ) (i : ℕ) → i ≡ length numbers → spaced (drop i numbers) ≡ []
unfolding spaced
spaced_none numbers i e = rw (e, drop-length numbers)

pub suites_length : (numbers : List ℕ) → length (suites_text numbers) ≡ 6 + length (spaced numbers)
unfolding suites_text
suites_length numbers = length-append (ascii "suites") (spaced numbers)

-- what is left of the room behind a part of the text
pub room_left : (room part rest : ℕ) → part ≤ room → ltb room (part + rest) ≡ ltb (room - part) rest
room_left room part rest h = go (ltb (room - part) rest) refl
  where
    go : (b : Bool) → ltb (room - part) rest ≡ b → ltb room (part + rest) ≡ b
    go true e = let l = ltb-true (room - part) rest e in lt-ltb room (part + rest) (omega arith)
    go false e = let l = ltb-false (room - part) rest e in le-ltb room (part + rest) (omega arith)

-- sixteen pieces, one behind the other, are four fours of them
by_fours : (a b c d e f g h i j k l m n o p : List ℕ)
    → [] ++ a ++ b ++ c ++ d ++ e ++ f ++ g ++ h ++ i ++ j ++ k ++ l ++ m ++ n ++ o ++ p ≡ (a ++ b ++ c ++ d) ++ (e ++ f ++ g ++ h) ++ (i ++ j ++ k ++ l) ++ (m ++ n ++ o ++ p)
by_fours a b c d e f g h i j k l m n o p = simp append_assoc

pub info_line : (i : ChannelInfo)
    → [] ++ ascii "info " ++ channel_text i.channel ++ ascii ", " ++ medium_text i.medium_type ++ ascii ", " ++ protocol_text i.protocol_type ++ ascii ", " ++ session_text i.session_support
    ++ ascii ", " ++ decimal i.active_sessions ++ ascii " active, vendor " ++ decimal i.vendor_id ++ ascii ", aux " ++ hex2 i.aux_info.byte1 ++ ascii " " ++ hex2 i.aux_info.byte2
    ≡ info_text i
unfolding info_text
info_line i =
    by_fours (ascii "info ") (channel_text i.channel) (ascii ", ") (medium_text i.medium_type) (ascii ", ") (protocol_text i.protocol_type) (ascii ", ") (session_text i.session_support)
    (ascii ", ") (decimal i.active_sessions) (ascii " active, vendor ") (decimal i.vendor_id) (ascii ", aux ") (hex2 i.aux_info.byte1) (ascii " ") (hex2 i.aux_info.byte2)
