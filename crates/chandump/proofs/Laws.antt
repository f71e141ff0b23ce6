-- The program's calls are those of a run.
use Prim.Native.Nat.{ℕ, zero, suc, ◌+◌, ◌-◌, ◌≤◌, ◌<◌}
use mathlib.Core.List.{List, [], ◌∷◌, ◌++◌}
use mathlib.Core.Path.{◌≡◌, refl, sym, ◌∙◌, ap}
use native.Mathlib.Omega.{arith}
use borrow.Author.Tests.{ltb-false}
use borrow.Rule.Slice.PartMut.{mid_of, put_mid}
use lib.ListN.{length, take, drop, length-append, length-take, length-drop}
use lib.Seq.{length-take-le, take-append-add, take-append-le, take-append_seam, take_at, take-nil}
use Rattle.std.specs.Prelude.{Result, Ok, IsOk}
use Rattle.base.specs.Outcome.{accepted}
use Rattle.base.specs.Written.{Writes}
use Rattle.base.specs.declared.refusal.Refusal.{Refusal}
use Rattle.base.proofs.written.Laws.{placed}
use Rattle.collector.specs.Stored.{fresh_stored, parts_of}
use Rattle.collector.specs.Histories.{Typed}
use Rattle.collector.specs.declared.Collector.{Collector}
use Rattle.lines.specs.Lines.{Keeps, between, line_length}
use Rattle.dump.specs.Input.{Line, answers_from, heading, joined, last_line}
use Rattle.dump.proofs.Laws.{as_long, had_room, surely}
use Rattle.stream.specs.Stream.{Feeds, Reached, begun, read, fed, kept, Replies, ended_lines, enough, fitting, limit}
use Rattle.stream.specs.declared.Fed.{Fed}
use Rattle.stream.proofs.Law.{all_written_lem, fitting_fits, last_room, line_take, none_left, parted}
use Rattle.chandump.specs.Run.{Answered, Ended, Ran, Ready, Whole}

-- Some lines of a block.

module _ {c left : Collector} (block d : List ℕ) {after : List ℕ} {r : Fed} (f : Feeds c (fitting (length d) c (ended_lines block)) r d after left) where
  abbrev some : List (List ℕ)
  some = fitting (length d) c (ended_lines block)

  put_fits : r.put ≤ length d
  put_fits = omega (arith, f.puts, fitting_fits (length d) c (ended_lines block))

  pub put_within : r.put ≤ length after
  put_within = omega (arith, put_fits, f.puts, ap length f.leaves, length-append (answers_from c some) (drop (length (answers_from c some)) d))

  put_text : take r.put after ≡ answers_from c some
  put_text = rw (f.puts, f.leaves) (take-append_seam (answers_from c some) (drop (length (answers_from c some)) d))

  pub answered : (put : ℕ) → put ≡ length (take r.put after) → Typed (parts_of c) → enough ≤ length d → Answered block (record { taken = r.taken; put = put }) after c left
  answered put e t h =
      let p : put ≡ r.put = e ∙ omega (arith, length-take r.put after, put_within) in
      record {
        grows = λ {input} {text} k. rw (p, put_text, f.takes, f.collects) (fed k (length d));
        most = let e = ap length (parted (length d) c block).0 in omega (arith, f.takes, length-append (joined some) (drop (length (joined some)) block));
        none = λ e. none_left (length d) c block t h (sym f.takes ∙ e);
      }

-- All lines of a block.

pub record Stands (block : List ℕ) (at : ℕ) (c : Collector) : Type 0 where
  pub ran : Ran (drop at block) c
  pub most : at ≤ length block

-- What a writer put.

module _ {message d after : List ℕ} {w : Result ℕ Refusal} (v : Writes (accepted message) w d after) (n : ℕ) (e : w ≡ Ok n) where
  wrote_fits : length message ≤ length d
  wrote_fits = ltb-false (length d) (length message) (had_room {n = n} (rw e at v))

  wrote_text : take n after ≡ message
  wrote_text = rw (as_long v wrote_fits n e, placed v wrote_fits) (take-append_seam message (drop (length message) d))

  pub wrote_within : n ≤ length after
  wrote_within = omega (arith, as_long v wrote_fits n e, ap length (placed v wrote_fits), length-append message (drop (length message) d))

  pub wrote_many : length (take n after) ≡ n
  wrote_many = omega (arith, length-take n after, wrote_within)

-- The last line.

module _ {c left : Collector} (rest : List ℕ) {d after : List ℕ} {w : Result ℕ Refusal} (r : Replies c (last_line rest) w d after left) where
  pub last_surely : Typed (parts_of c) → enough ≤ length d → IsOk w
  last_surely t h = surely r.writes (omega (arith, last_room c rest t))

  pub last_put : (n : ℕ) → Ran rest c → Line rest → w ≡ Ok n → (put : ℕ) → put ≡ length (take n after) → Ended put after
  last_put n s h e put k = record { input = s.input; text = s.text; whole = rw (k ∙ wrote_many r.writes n e, wrote_text r.writes n e) (all_written_lem s.reached h) }

-- What is kept of a block.

drop_take : (at end : ℕ) (l : List ℕ) → drop at (take end l) ≡ between at end l
drop_take zero end l = let z : end - 0 ≡ end = omega arith in rw z
drop_take (suc at) zero l = let z : 0 - suc at ≡ 0 = omega arith in rw z
drop_take (suc at) (suc end) [] = sym (take-nil (suc end - suc at))
drop_take (suc at) (suc end) (x ∷ l) = let z : suc end - suc at ≡ end - at = omega arith in rw z (drop_take at end l)

pub kept_ready : (block : List ℕ) (at end : ℕ) {after : List ℕ} {held : ℕ} {c : Collector} → Whole (take end block) at c → Keeps (take limit (between at end block)) held block after → limit < length block
    → Ready held after c
kept_ready block at end {after} {held} {c} w k m =
    let b : drop at (take end block) ≡ between at end block = drop_take at end block in
    let rest = between at end block in
    let t : take held after ≡ take limit rest = rw (k.count, k.leaves) (take-append_seam (take limit rest) (drop (length (take limit rest)) block)) in
    let l : Line rest = rw b at w.line in
    let r = w.ran in
    let e = length-take limit rest in
    record {
      ran = record { input = r.input; text = r.text; reached = rw t (kept (rw b at r.reached) l) };
      line = rw t (line_take limit rest l);
      small = omega (arith, k.count);
      more = omega (arith, ap length k.leaves, length-append (take limit rest) (drop (length (take limit rest)) block), length-drop (length (take limit rest)) block);
    }

-- What is read.

module _ {held : ℕ} {block : List ℕ} {c : Collector} (part : List ℕ) (r : Ready held block c) (l : length part ≡ length (mid_of held (length block - held) block)) where
  abbrev after : List ℕ
  after = put_mid held (length block - held) block part

  part_length_lem : length part ≡ length block - held
  part_length_lem = omega (arith, l, length-take (length block - held) (drop held block), length-drop held block)

  pub read_length : length after ≡ length block
  read_length =
      let t = length-take held block in
      let e = length-drop (length block - held) (drop held block) in
      omega (arith, part_length_lem, length-drop held block, r.small, r.more, length-append (take held block) (part ++ drop (length block - held) (drop held block)), length-append part (drop (length block - held) (drop held block)))

  held_length : length (take held block) ≡ held
  held_length = length-take-le held block (omega (arith, r.small, r.more))

  still : take held after ≡ take held block
  still = take_at (take held block) (part ++ drop (length block - held) (drop held block)) held held_length

  -- so many bytes
  pub read_within : (n : ℕ) → n ≤ length (mid_of held (length block - held) block) → held + n ≤ length block
  read_within n h = omega (arith, h, l, part_length_lem, r.small, r.more)

  pub read_some : (n : ℕ) → n ≤ length (mid_of held (length block - held) block) → Ran (take (held + n) after) c
  read_some n h =
      let s = r.ran in
      let b = drop (length block - held) (drop held block) in
      let e : take (held + n) after ≡ take held block ++ take n part =
      ap (λ (k : ℕ). take (k + n) after) (sym held_length) ∙ take-append-add (take held block) (part ++ b) n ∙ ap (λ (x : List ℕ). take held block ++ x) (take-append-le n part b (omega (arith, h, l))) in
      record { input = s.input ++ take n part; text = s.text; reached = rw e (read s.reached (take n part)) }

-- The first call and the first read.

pub begun_surely : {d after : List ℕ} {w : Result ℕ Refusal} → Writes (accepted heading) w d after → enough ≤ length d → IsOk w
begun_surely v h = surely v (omega arith)

pub begun_put : {d after : List ℕ} {w : Result ℕ Refusal} → Writes (accepted heading) w d after → (n : ℕ) → w ≡ Ok n → (put : ℕ) → put ≡ length (take n after) → Reached [] (take put after) [] fresh_stored
begun_put v n e put k = rw (k ∙ wrote_many v n e, wrote_text v n e) begun

pub ready_first : {block text : List ℕ} {c : Collector} → c ≡ fresh_stored → Reached [] text [] fresh_stored → limit < length block → Ready 0 block c
unfolding line_length
ready_first {text = text} e b m = record { ran = record { input = []; text = text; reached = rw e b }; line = refl; small = omega arith; more = m }
