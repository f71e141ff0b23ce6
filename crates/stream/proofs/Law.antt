-- However an input is cut into blocks, and whatever the room, what is written is the output.
use Prim.Native.Nat.{ℕ, zero, suc, ◌-◌, ◌≤◌, ◌<◌}
use mathlib.Core.Bool.{Bool, true, false}
use mathlib.Core.List.{List, [], ◌∷◌, ◌++◌, append_assoc, append-nil}
use mathlib.Core.Path.{◌≡◌, refl, sym, ◌∙◌, ap}
use native.Mathlib.Omega.{arith}
use borrow.Author.Tests.{ltb-true, ltb-false, le-ltb}
use lib.Dec.{eqb, ltb}
use lib.ListN.{length, take, drop, length-append, length-take}
use lib.Seq.{drop-append_seam, take_all}
use Rattle.std.specs.Prelude.{if◌then◌else◌}
use Rattle.collector.specs.Histories.{Typed}
use Rattle.collector.specs.Stored.{parts_of}
use Rattle.collector.specs.declared.Collector.{Collector}
use Rattle.lines.specs.Lines.{line_length, newline}
use Rattle.dump.specs.Dump.{answering, longest}
use Rattle.dump.specs.Input.{Line, Lines, answer_to, answers_from, collector_from, joined, last_line, lines_from, lines_of, output_of}
use Rattle.dump.proofs.Input.{Split, last_line_lem, lines_joined, longer, split}
use Rattle.dump.proofs.Laws.{long}
use Rattle.dump.proofs.Room.{room_enough}
use Rattle.stream.specs.Stream.{Reached, begun, read, fed, kept, ended_from, ended_lines, enough, fitting, limit}

-- Lines one behind the other.

pub joined_more : (a b : List (List ℕ)) → joined (a ++ b) ≡ joined a ++ joined b
joined_more [] b = refl
joined_more (line ∷ a) b = rw (joined_more a b) (sym (append_assoc line (newline ∷ joined a) (joined b)))

pub answers_more : (c : Collector) (a b : List (List ℕ)) → answers_from c (a ++ b) ≡ answers_from c a ++ answers_from (collector_from c a) b
unfolding answers_from collector_from
answers_more c [] b = refl
answers_more c (line ∷ a) b = rw (answers_more (answering c line).collector a b) (sym (append_assoc (answer_to c line) (answers_from (answering c line).collector a) (answers_from (collector_from (answering c line).collector a) b)))

pub collector_more : (c : Collector) (a b : List (List ℕ)) → collector_from c (a ++ b) ≡ collector_from (collector_from c a) b
unfolding collector_from
collector_more c [] b = refl
collector_more c (line ∷ a) b = collector_more (answering c line).collector a b

-- The lines of a block that a newline ends.

ended_line : (line held : List ℕ) → Line line → ended_from line held ≡ []
unfolding ended_from
ended_line [] held h = refl
ended_line (x ∷ line) held h = let k = longer x line h in rw k.0 (ended_line line (held ++ (x ∷ [])) k.1)

-- a block without a newline has none
pub none_ended : (block : List ℕ) → Line block → ended_lines block ≡ []
none_ended block h = ended_line block [] h

ended_first : (line held rest : List ℕ) → Line line → ended_from (line ++ (newline ∷ rest)) held ≡ (held ++ line) ∷ ended_lines rest
unfolding ended_from
ended_first [] held rest h = rw (append-nil held)
ended_first (x ∷ line) held rest h =
    let k = longer x line h in
    rw k.0 (ended_first line (held ++ (x ∷ [])) rest k.1 ∙ ap (λ (l : List ℕ). l ∷ ended_lines rest) (append_assoc held (x ∷ []) line))

pub first_ended : (line rest : List ℕ) → Line line → ended_lines (line ++ (newline ∷ rest)) ≡ line ∷ ended_lines rest
first_ended line rest h = ended_first line [] rest h

pub all_ended : (lines : List (List ℕ)) (last : List ℕ) → Lines lines → Line last → ended_lines (joined lines ++ last) ≡ lines
all_ended [] last h o = none_ended last o
all_ended (line ∷ lines) last h o =
    rw (append_assoc line (newline ∷ joined lines) last) (first_ended line (joined lines ++ last) h.0 ∙ ap (λ (l : List (List ℕ)). line ∷ l) (all_ended lines last h.1 o))

-- Those that fit are the first of them.

pub record First (some all : List (List ℕ)) : Type 0 where
  pub others : List (List ℕ)
  pub whole : all ≡ some ++ others

pub fitting_first : (room : ℕ) (c : Collector) (lines : List (List ℕ)) → First (fitting room c lines) lines
unfolding fitting
fitting_first room c [] = record { others = []; whole = refl }
fitting_first room c (line ∷ lines) = go (ltb room (length (answer_to c line))) (fitting_first (room - length (answer_to c line)) (answering c line).collector lines)
  where
    go : (b : Bool) → First (fitting (room - length (answer_to c line)) (answering c line).collector lines) lines
        → First (if b then [] else line ∷ fitting (room - length (answer_to c line)) (answering c line).collector lines) (line ∷ lines)
    go true f = record { others = line ∷ lines; whole = refl }
    go false f = record { others = f.others; whole = ap (λ (l : List (List ℕ)). line ∷ l) f.whole }

-- and their answers fit
pub fitting_fits : (room : ℕ) (c : Collector) (lines : List (List ℕ)) → length (answers_from c (fitting room c lines)) ≤ room
unfolding answers_from fitting
fitting_fits room c [] = omega arith
fitting_fits room c (line ∷ lines) = go (ltb room (length (answer_to c line))) refl (fitting_fits (room - length (answer_to c line)) (answering c line).collector lines)
  where
    go : (b : Bool) → ltb room (length (answer_to c line)) ≡ b → length (answers_from (answering c line).collector (fitting (room - length (answer_to c line)) (answering c line).collector lines)) ≤ room - length (answer_to c line)
        → length (answers_from c (if b then [] else line ∷ fitting (room - length (answer_to c line)) (answering c line).collector lines)) ≤ room
    go true e h = omega arith
    go false e h =
        let l = ltb-false room (length (answer_to c line)) e in
        omega (arith, length-append (answer_to c line) (answers_from (answering c line).collector (fitting (room - length (answer_to c line)) (answering c line).collector lines)))

lines_first : (a b : List (List ℕ)) → Lines (a ++ b) → Lines a
lines_first [] b h = tt
lines_first (line ∷ a) b h = (h.0, lines_first a b h.1)

-- a block is what was answered of it and the rest, and so are its lines, whatever follows
module _ (room : ℕ) (c : Collector) (rest : List ℕ) where
  abbrev some : List (List ℕ)
  some = fitting room c (ended_lines rest)

  abbrev left : List ℕ
  left = drop (length (joined some)) rest

  pub parted : (rest ≡ joined some ++ left) × Lines some
  parted = go (split rest)
    where
      go : Split rest → (rest ≡ joined some ++ left) × Lines some
      go s =
          let f = fitting_first room c (ended_lines rest) in
          let e : ended_lines rest ≡ s.lines = rw s.all (all_ended s.lines s.last s.ended s.rest) in
          let w : s.lines ≡ some ++ f.others = sym e ∙ f.whole in
          let a : rest ≡ joined some ++ (joined f.others ++ s.last) = s.all ∙ rw (w, joined_more some f.others) (append_assoc (joined some) (joined f.others) s.last) in
          let d : left ≡ joined f.others ++ s.last = ap (drop (length (joined some))) a ∙ drop-append_seam (joined some) (joined f.others ++ s.last) in
          let l : Lines (some ++ f.others) = rw (← w) s.ended in
          (a ∙ ap (λ (l : List ℕ). joined some ++ l) (sym d), lines_first some f.others l)

  fed_on : (more : List ℕ) → answers_from c (lines_of (rest ++ more)) ≡ answers_from c some ++ answers_from (collector_from c some) (lines_of (left ++ more))
  fed_on more =
      let p = parted in
      let a : rest ++ more ≡ joined some ++ (left ++ more) = ap (λ (l : List ℕ). l ++ more) p.0 ∙ append_assoc (joined some) left more in
      ap (λ (l : List ℕ). answers_from c (lines_of l)) a ∙ ap (answers_from c) (lines_joined some (left ++ more) p.1) ∙ answers_more c some (lines_of (left ++ more))

-- What is kept of an unfinished line tells as much as the line.

held_on : (line held more : List ℕ) → Line line → lines_from (line ++ more) held ≡ lines_from more (held ++ line)
unfolding lines_from
held_on [] held more h = rw (append-nil held)
held_on (x ∷ line) held more h =
    let k = longer x line h in
    rw k.0 (held_on line (held ++ (x ∷ [])) more k.1 ∙ ap (lines_from more) (append_assoc held (x ∷ []) line))

too_long : (c : Collector) (a b more : List ℕ) → longest < length a → longest < length b → answers_from c (lines_from more a) ≡ answers_from c (lines_from more b)
unfolding answers_from lines_from
too_long c a b [] h k = last a b h k
  where
    last : (a b : List ℕ) → longest < length a → longest < length b → answers_from c (last_line a) ≡ answers_from c (last_line b)
    last [] b h k = absurd (omega arith)
    last (x ∷ a) [] h k = absurd (omega arith)
    last (x ∷ a) (y ∷ b) h k = rw (long c (x ∷ a) h, long c (y ∷ b) k)
too_long c a b (x ∷ more) h k = go (eqb x newline) (too_long c (a ++ (x ∷ [])) (b ++ (x ∷ [])) more (rw length-append (omega arith)) (rw length-append (omega arith)))
  where
    go : (t : Bool) → answers_from c (lines_from more (a ++ (x ∷ []))) ≡ answers_from c (lines_from more (b ++ (x ∷ [])))
        → answers_from c (if t then a ∷ lines_from more [] else lines_from more (a ++ (x ∷ []))) ≡ answers_from c (if t then b ∷ lines_from more [] else lines_from more (b ++ (x ∷ [])))
    go true q = rw (long c a h, long c b k)
    go false q = q

pub line_take : (n : ℕ) (line : List ℕ) → Line line → Line (take n line)
unfolding line_length
line_take zero line h = refl
line_take (suc n) [] h = refl
line_take (suc n) (x ∷ line) h = let k = longer x line h in rw k.0 (ap suc (line_take n line k.1))

pub kept_tells : (c : Collector) (rest more : List ℕ) → Line rest → answers_from c (lines_of (take limit rest ++ more)) ≡ answers_from c (lines_of (rest ++ more))
kept_tells c rest more h = go (ltb limit (length rest)) refl
  where
    go : (b : Bool) → ltb limit (length rest) ≡ b → answers_from c (lines_of (take limit rest ++ more)) ≡ answers_from c (lines_of (rest ++ more))
    go true e =
        let l : limit < length rest = ltb-true limit (length rest) e in
        let t = length-take limit rest in
        rw (held_on (take limit rest) [] more (line_take limit rest h), held_on rest [] more h) (too_long c (take limit rest) rest more (omega arith) (omega arith))
    go false e = rw (take_all limit rest (ltb-false limit (length rest) e))

-- The law.

-- what a run has written, and what it will write, is the output, whatever follows
pub reached_so_far : {input text rest : List ℕ} {c : Collector} → Reached input text rest c → (more : List ℕ) → output_of (input ++ more) ≡ text ++ answers_from c (lines_of (rest ++ more))
unfolding output_of
reached_so_far begun more = refl
reached_so_far (read {input} {text} {rest} {c} r piece) more = rw (append_assoc input piece more, append_assoc rest piece more) (reached_so_far r (piece ++ more))
reached_so_far (fed {input} {text} {rest} {c} r room) more =
    reached_so_far r more ∙ ap (λ (l : List ℕ). text ++ l) (fed_on room c rest more)
    ∙ sym (append_assoc text (answers_from c (fitting room c (ended_lines rest))) (answers_from (collector_from c (fitting room c (ended_lines rest))) (lines_of (drop (length (joined (fitting room c (ended_lines rest)))) rest ++ more))))
reached_so_far (kept {input} {text} {rest} {c} r h) more = reached_so_far r more ∙ ap (λ (l : List ℕ). text ++ l) (sym (kept_tells c rest more h))

-- the law: for every way to cut an input into blocks, and any room, what is written, with the last line, is the output
pub all_written_lem : {input text rest : List ℕ} {c : Collector} → Reached input text rest c → Line rest → text ++ answers_from c (last_line rest) ≡ output_of input
all_written_lem {input} {text} {rest} {c} r h =
    ap (λ (l : List (List ℕ)). text ++ answers_from c l) (sym (last_line_lem rest h) ∙ ap lines_of (sym (append-nil rest)))
    ∙ sym (reached_so_far r []) ∙ ap output_of (append-nil input)

-- where nothing is answered in that room, there is no line
pub none_left : (room : ℕ) (c : Collector) (rest : List ℕ) → Typed (parts_of c) → enough ≤ room → length (joined (fitting room c (ended_lines rest))) ≡ 0 → Line rest
unfolding fitting
none_left room c rest t h z = go (split rest)
  where
    by : (lines : List (List ℕ)) (last : List ℕ) → rest ≡ joined lines ++ last → ended_lines rest ≡ lines → Line last → Line rest
    by [] last e f o = rw e o
    by (line ∷ lines) last e f o =
        let l = length-append (answering c line).said.text (newline ∷ []) in
        let k = le-ltb room (length (answer_to c line)) (omega (arith, room_enough c t line)) in
        let y : length (joined (line ∷ fitting (room - length (answer_to c line)) (answering c line).collector lines)) ≡ 0 = rw (f, k) at z in
        absurd (omega (arith, length-append line (newline ∷ joined (fitting (room - length (answer_to c line)) (answering c line).collector lines))))

    go : Split rest → Line rest
    go s = by s.lines s.last s.all (rw s.all (all_ended s.lines s.last s.ended s.rest)) s.rest

-- and so has the last line's answer
pub last_room : (c : Collector) (rest : List ℕ) → Typed (parts_of c) → length (answers_from c (last_line rest)) ≤ enough
unfolding answers_from
last_room c [] t = omega arith
last_room c (x ∷ rest) t =
    let l = length-append (answering c (x ∷ rest)).said.text (newline ∷ []) in
    rw (append-nil (answer_to c (x ∷ rest))) (omega (arith, room_enough c t (x ∷ rest)))
