-- Laws of the code.
use Prim.Native.Nat.{ℕ, suc, ◌+◌, ◌-◌, ◌≤◌, ◌<◌}
use mathlib.Core.Bool.{Bool, true, false}
use mathlib.Core.List.{List, [], ◌∷◌, ◌++◌, append_assoc, append-nil}
use mathlib.Core.Path.{◌≡◌, refl, sym, ◌∙◌, ap, subst}
use native.Mathlib.Numerals.{add-one}
use native.Mathlib.Omega.{arith}
use borrow.Author.Tests.{ltb-true, ltb-false, lt-ltb, le-ltb, eqb-true}
use borrow.Rule.Slice.PartMut.{mid_of, put_mid, put_same}
use lib.Dec.{eqb, ltb}
use lib.ListN.{length, take, drop, set, get_or, length-append, length-take, length-drop, drop_of_length-le, take-append-drop}
use lib.Seq.{take_all, drop-append_seam, drop-append-le, take-append_seam, drop-drop, drop-cons, set_at}
use Rattle.std.specs.Prelude.{Result, Ok, Err, Some, None, if◌then◌else◌}
use Rattle.std.specs.Result.{result_ok}
use Rattle.base.specs.Outcome.{accepted}
use Rattle.base.specs.Written.{Writes}
use Rattle.base.specs.declared.refusal.Refusal.{Refusal}
use Rattle.base.specs.declared.refusal.Refusal.TheVariants.{NoRoom}
use Rattle.base.proofs.Said.{said_one}
use Rattle.base.proofs.written.Laws.{fitting as writing, lacking, placed}
use Rattle.collector.specs.declared.Collector.{Collector}
use Rattle.lines.specs.Lines.{line_length, newline, newline_from}
use Rattle.dump.specs.Dump.{Answers, answering}
use Rattle.dump.specs.Input.{Line, answer_to, answers_from, collector_from, joined, last_line}
use Rattle.dump.specs.declared.Answered.{Answered}
use Rattle.dump.proofs.Laws.{as_long, had_room, no_room}
use Rattle.stream.specs.Steps.{Steps, Went}
use Rattle.stream.specs.Stream.{Feeds, Replies, ended_lines, fitting}
use Rattle.stream.specs.declared.Fed.{Fed}
use Rattle.stream.proofs.Law.{answers_more, collector_more, first_ended, joined_more, none_ended}

-- An answer and its newline.

one : (c : Collector) (line : List ℕ) → answers_from c (line ∷ []) ≡ answer_to c line
unfolding answers_from
one c line = append-nil (answer_to c line)

one_behind : (c : Collector) (line : List ℕ) → collector_from c (line ∷ []) ≡ (answering c line).collector
unfolding collector_from
one_behind c line = refl

one_length : (c : Collector) (line : List ℕ) → length (answer_to c line) ≡ suc (length (answering c line).said.text)
one_length c line = length-append (answering c line).said.text (newline ∷ []) ∙ omega arith

as_one : {c left : Collector} {line d after : List ℕ} {r : Result ℕ Refusal} → Writes (accepted (answer_to c line)) r d after
    → left ≡ (if ltb (length d) (length (answer_to c line)) then c else (answering c line).collector) → Replies c (line ∷ []) r d after left
as_one {c} {left} {line} {d} w l = record { writes = rw (one c line) w; leaves = rw (one c line, one_behind c line) l }

-- a buffer of no bytes
pub replied_none : (c : Collector) (line d : List ℕ) → length d ≡ 0 → Replies c (line ∷ []) (Err NoRoom) d d c
replied_none c line d e =
    let h : length d < length (answer_to c line) = omega (arith, one_length c line) in
    as_one (lacking (answer_to c line) d h) (rw (lt-ltb (length d) (length (answer_to c line)) h))

module _ (c : Collector) (line d part : List ℕ) (left : Collector) (a : Answered) (h : 0 < length d) (w : Answers (answering c line) a (take (length d - 1) d) part c left) where
  abbrev text : List ℕ
  text = (answering c line).said.text

  abbrev room : List ℕ
  room = take (length d - 1) d

  abbrev end : List ℕ
  end = drop (length d - 1) d

  room_length : length room ≡ length d - 1
  room_length = omega (arith, length-take (length d - 1) d)

  pub replied_not : {x : Refusal} → a.written ≡ Err x → Replies c (line ∷ []) (Err x) d (part ++ end) left
  replied_not {x} e =
      let v : Writes (accepted text) (Err x) room part = rw e at w.says.writes in
      let n = no_room v in
      let m = ltb-true (length room) (length text) n in
      let k = lacking text room m in
      let l : length d < length (answer_to c line) = omega (arith, room_length, one_length c line) in
      let y = said_one (Err x) (Err NoRoom) (v.answers ∙ sym k.answers) in
      let p : part ≡ room = v.leaves ∙ sym k.leaves in
      let q : part ++ end ≡ d = rw p (take-append-drop (length d - 1) d) in
      let u : left ≡ c = w.leaves ∙ rw n in
      as_one (rw (q, y) (lacking (answer_to c line) d l)) (rw (u, lt-ltb (length d) (length (answer_to c line)) l))

  module _ (n : ℕ) (e : a.written ≡ Ok n) where
    fits : length text ≤ length room
    fits = ltb-false (length room) (length text) (had_room {n = n} (rw e at w.says.writes))

    as_many : n ≡ length text
    as_many = as_long w.says.writes fits n e

    wider : part ++ end ≡ text ++ drop (length text) d
    wider =
        rw (placed w.says.writes fits) (append_assoc text (drop (length text) room) end ∙ ap (λ (l : List ℕ). text ++ l) (sym (drop-append-le (length text) room end fits) ∙ ap (drop (length text)) (take-append-drop (length d - 1) d)))

    pub replied_within : (n < length (part ++ end)) × (n < length d)
    replied_within =
        let l = ap length wider ∙ length-append text (drop (length text) d) in
        (omega (arith, l, as_many, fits, room_length, length-drop (length text) d), omega (arith, as_many, fits, room_length))

    pub replied : Replies c (line ∷ []) (Ok (n + 1)) d (set (part ++ end) n newline) left
    replied =
        let o = one_length c line in
        let k : length (answer_to c line) ≤ length d = omega (arith, fits, room_length) in
        let m : n + 1 ≡ length (answer_to c line) = omega (arith, as_many) in
        let y : length text < length d = omega (arith, fits, room_length) in
        let p = wider ∙ ap (λ (l : List ℕ). text ++ l) (drop-cons d (length text) 0 y) in
        let q : set (part ++ end) n newline ≡ answer_to c line ++ drop (length (answer_to c line)) d =
        rw (p, set_at text (get_or d (length text) 0) (drop (suc (length text)) d) newline n (sym as_many), o) (sym (append_assoc text (newline ∷ []) (drop (suc (length text)) d))) in
        let u : left ≡ (answering c line).collector = w.leaves ∙ rw (le-ltb (length room) (length text) fits) in
        as_one (rw (q, m) (writing (answer_to c line) d k)) (rw (u, le-ltb (length d) (length (answer_to c line)) k))

-- The first line of a block.

line_within : (l : List ℕ) → line_length l ≤ length l
unfolding line_length
line_within [] = omega arith
line_within (x ∷ l) = go (eqb x newline) (line_within l)
  where
    go : (b : Bool) → line_length l ≤ length l → (if b then 0 else suc (line_length l)) ≤ suc (length l)
    go true h = omega arith
    go false h = omega arith

newline_first : (block : List ℕ) → newline_from block 0 ≡ line_length block
newline_first block = rw (le-ltb (length block) 0 (omega arith)) (omega arith)

pub first_within : (block : List ℕ) (end : ℕ) → end ≡ newline_from block 0 → end ≤ length block
first_within block end e = omega (arith, e, newline_first block, line_within block)

-- it stands before the newline and what follows
record Cut (block : List ℕ) (n : ℕ) : Type 0 where
  line : Line (take n block)
  whole : block ≡ take n block ++ (newline ∷ drop (suc n) block)

cut : (block : List ℕ) → line_length block < length block → Cut block (line_length block)
unfolding line_length
cut [] h = absurd (omega arith)
cut (x ∷ block) h = go (eqb x newline) refl h (cut block)
  where
    go : (b : Bool) → eqb x newline ≡ b → (if b then 0 else suc (line_length block)) < suc (length block) → (line_length block < length block → Cut block (line_length block))
        → Cut (x ∷ block) (if b then 0 else suc (line_length block))
    go true e h r = record { line = refl; whole = rw (eqb-true x newline e) }
    go false e h r =
        let q = r (omega arith) in
        record { line = rw e (ap suc q.line); whole = ap (λ (l : List ℕ). x ∷ l) q.whole }

feeds_none : (c : Collector) (d : List ℕ) → Feeds c [] (record { taken = 0; put = 0 }) d d c
unfolding answers_from collector_from
feeds_none c d = record { takes = refl; puts = refl; leaves = refl; collects = refl }

unlike : {A : Type 0} {a : A} → Some a ≡ None → ⊥
unlike e = let z : ◌≡◌ {A = ℕ} 0 1 = cc in omega arith

was_ok : (w : Result ℕ Refusal) {n : ℕ} → result_ok w ≡ Some n → w ≡ Ok n
was_ok (Ok m) e = cc
was_ok (Err x) e = absurd (unlike (sym e))

module _ (c : Collector) (block d : List ℕ) (end : ℕ) (e : end ≡ newline_from block 0) where
  pub step_none : end ≡ length block → Steps c block None d d c
  unfolding fitting
  step_none l = (rw (none_ended block (sym (newline_first block) ∙ sym e ∙ l)), refl, refl)

  module _ (n : end ≡ length block → ⊥) where
    abbrev line : List ℕ
    line = take end block

    abbrev rest : List ℕ
    rest = drop (end + 1) block

    ended : ended_lines block ≡ line ∷ ended_lines rest
    ended =
        let k = newline_first block in
        let i = first_within block end e in
        let q : Cut block end = subst (Cut block) (sym (e ∙ k)) (cut block (omega (arith, n))) in
        rw (add-one end) (ap ended_lines q.whole ∙ first_ended (take end block) (drop (suc end) block) q.line)

    pub step_full : {w : Result ℕ Refusal} {after : List ℕ} {left : Collector} → Replies c (line ∷ []) w d after left → result_ok w ≡ None → Steps c block None d after left
    unfolding fitting
    step_full {w} {after} {left} r y = go w r y
      where
        go : (o : Result ℕ Refusal) → Replies c (line ∷ []) o d after left → result_ok o ≡ None → Steps c block None d after left
        go (Ok n) r y = absurd (unlike y)
        go (Err x) r y =
            let v : Writes (accepted (answer_to c line)) (Err x) d after = rw (one c line) at r.writes in
            let f = no_room v in
            let p : after ≡ d = v.leaves ∙ sym (lacking (answer_to c line) d (ltb-true (length d) (length (answer_to c line)) f)).leaves in
            let q : left ≡ c = r.leaves ∙ rw (one c line, f) in
            (rw (ended, f), p, q)

    pub step_some : {w : Result ℕ Refusal} {put : ℕ} {after : List ℕ} {left : Collector} → Replies c (line ∷ []) w d after left → result_ok w ≡ Some put → Steps c block (Some (record { taken = end + 1; put = put })) d after left
    unfolding fitting
    step_some {w} {put} {after} {left} r y =
        let v : Writes (accepted (answer_to c line)) (Ok put) d after = rw (one c line, was_ok w y) at r.writes in
        let f = had_room v in
        let l : length (answer_to c line) ≤ length d = ltb-false (length d) (length (answer_to c line)) f in
        let p = as_long v l put refl in
        let i = first_within block end e in
        let k : length line ≡ end = length-take end block ∙ omega arith in
        let j : length (joined (line ∷ [])) ≡ suc (length line) = length-append line (newline ∷ []) ∙ omega arith in
        let b : left ≡ (answering c line).collector = r.leaves ∙ rw (one c line, one_behind c line, f) in (
          record {
            lines = line ∷ [];
            all = rw (ended, f, p, b);
            feeds = record {
              takes = omega (arith, j, k);
              puts = rw (one c line) p;
              leaves = rw (one c line) (placed v l);
              collects = rw (one_behind c line) b;
            };
            most = omega (arith, n);
            room = omega arith;
          },
          omega arith,
        )

-- Lines of a block.

pub went_none : (c : Collector) (block d : List ℕ) → Went c block (record { taken = 0; put = 0 }) d d c
went_none c block d = let z : length d - 0 ≡ length d = omega arith in record { lines = []; all = rw z; feeds = feeds_none c d; most = omega arith; room = omega arith }

-- what a step is lent: the rest of the block, and the room behind what was put
part_rest : (at : ℕ) (block : List ℕ) → take (length block - at) (drop at block) ≡ drop at block
part_rest at block = take_all (length block - at) (drop at block) (omega (arith, length-drop at block))

module _ {c left : Collector} {lines : List (List ℕ)} {r : Fed} {d mid : List ℕ} (f : Feeds c lines r d mid left) (h : r.put ≤ length d) where
  feeds_length : length mid ≡ length d
  feeds_length = ap length f.leaves ∙ omega (arith, length-append (answers_from c lines) (drop (length (answers_from c lines)) d), length-drop (length (answers_from c lines)) d, f.puts)

  feeds_room : mid_of r.put (length mid - r.put) mid ≡ drop (length (answers_from c lines)) d
  feeds_room =
      let x = answers_from c lines in
      let e : length (drop (length x) d) ≤ length (x ++ drop (length x) d) - length x = omega (arith, length-append x (drop (length x) d)) in
      rw (f.puts, f.leaves, drop-append_seam x (drop (length x) d)) (take_all (length (x ++ drop (length x) d) - length x) (drop (length x) d) e)

  -- what is fed next stands behind it
  feeds_more : {more : List (List ℕ)} {s : Fed} {part : List ℕ} {last : Collector} → Feeds left more s (mid_of r.put (length mid - r.put) mid) part last
      → Feeds c (lines ++ more) (record { taken = r.taken + s.taken; put = r.put + s.put }) d (put_mid r.put (length mid - r.put) mid part) last
  feeds_more {more} {s} {part} g =
      let x = answers_from c lines in
      let y = answers_from left more in
      let b = feeds_room in
      let a : answers_from c (lines ++ more) ≡ x ++ y = answers_more c lines more ∙ rw (← f.collects) in
      let e : length (drop (length x) d) ≤ length (x ++ drop (length x) d) - length x = omega (arith, length-append x (drop (length x) d)) in
      record {
        takes = rw (joined_more lines more, f.takes, g.takes) (sym (length-append (joined lines) (joined more)));
        puts = rw (a, f.puts, g.puts) (sym (length-append x y));
        leaves =
            rw (a, g.leaves, b, f.puts, f.leaves, take-append_seam x (drop (length x) d), drop-append_seam x (drop (length x) d), drop_of_length-le (drop (length x) d) e)
            (simp (append-nil, append_assoc, length-append, drop-drop));
        collects = g.collects ∙ rw f.collects (sym (collector_more c lines more));
      }

-- the room behind what was put
room_left : {c left : Collector} {block d mid : List ℕ} {t : Fed} → Went c block t d mid left → length (mid_of t.put (length mid - t.put) mid) ≡ length d - t.put
room_left {c} {d = d} {t = t} p = ap length (feeds_room p.feeds p.room) ∙ omega (arith, length-drop (length (answers_from c p.lines)) d, p.feeds.puts)

pub went_on : {c left last : Collector} {block d mid part : List ℕ} {t s : Fed} → Went c block t d mid left
    → Went left (take (length block - t.taken) (drop t.taken block)) s (mid_of t.put (length mid - t.put) mid) part last
    → Went c block (record { taken = t.taken + s.taken; put = t.put + s.put }) d (put_mid t.put (length mid - t.put) mid part) last
went_on {c} {left} {last} {block} {d} {mid} {part} {t} {s} p q =
    let f = p.feeds in
    let m = room_left p in
    let b = part_rest t.taken block in
    let l = length-drop t.taken block in
    let z : length d - t.put - s.put ≡ length d - (t.put + s.put) = omega arith in
    let k = rw (m, b, z, drop-drop s.taken t.taken block) at q.all in
    record {
      lines = p.lines ++ q.lines;
      all = p.all ∙ ap (λ (x : List (List ℕ)). p.lines ++ x) k ∙ sym (append_assoc p.lines q.lines (fitting (length d - (t.put + s.put)) last (ended_lines (drop (t.taken + s.taken) block))));
      feeds = feeds_more f p.room q.feeds;
      most = let y = rw b at q.most in omega (arith, p.most);
      room = omega (arith, p.room, q.room);
    }

-- where nothing fits of the rest, what fits was answered
pub went_far : {c left last : Collector} {block d mid part : List ℕ} {t : Fed} → Went c block t d mid left
    → Steps left (take (length block - t.taken) (drop t.taken block)) None (mid_of t.put (length mid - t.put) mid) part last
    → Feeds c (fitting (length d) c (ended_lines block)) t d (put_mid t.put (length mid - t.put) mid part) last
went_far {c} {left} {block = block} {d} {mid} {t = t} w s =
    let n = rw (room_left w, part_rest t.taken block) at s.0 in
    let a : fitting (length d) c (ended_lines block) ≡ w.lines = w.all ∙ rw n (append-nil w.lines) in
    rw (a, s.1, s.2, put_same t.put (length mid - t.put) mid) w.feeds

-- The last line.

pub finish_none : (c : Collector) (rest d : List ℕ) → length rest ≡ 0 → Replies c (last_line rest) (Ok 0) d d c
unfolding answers_from collector_from
finish_none c [] d e = let l : 0 ≤ length d = omega arith in record { writes = writing [] d l; leaves = rw (le-ltb (length d) 0 l) }
finish_none c (x ∷ rest) d e = absurd (omega arith)
