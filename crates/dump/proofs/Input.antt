-- Laws of a whole input.
use mathlib.Core.Path.{◌≡◌, refl, ◌∙◌, ap}
use mathlib.Core.Bool.{Bool, true, false}
use mathlib.Core.List.{List, [], ◌∷◌, ◌++◌, append_assoc, append-nil}
use Prim.Native.Nat.{ℕ, suc}
use native.Mathlib.Omega.{arith}
use borrow.Author.Tests.{eqb-true}
use lib.Dec.{eqb}
use lib.ListN.{length}
use Rattle.std.specs.Prelude.{if◌then◌else◌}
use Rattle.collector.specs.Stored.{fresh_stored}
use Rattle.lines.specs.Lines.{line_length, newline}
use Rattle.dump.specs.Input.{Line, Lines, answers_from, heading, joined, last_line, lines_from, lines_of, output_of}

-- what is known of a line's first byte, and of the others
pub longer : (x : ℕ) (line : List ℕ) → Line (x ∷ line) → (eqb x newline ≡ false) × Line line
unfolding line_length
longer x line e = go (eqb x newline) refl e
  where
    go : (b : Bool) → eqb x newline ≡ b → (if b then 0 else suc (line_length line)) ≡ suc (length line) → (eqb x newline ≡ false) × Line line
    go true p e = absurd (omega arith)
    go false p e = (p, omega arith)

pub first_line : (line held rest : List ℕ) → Line line → lines_from (line ++ (newline ∷ rest)) held ≡ (held ++ line) ∷ lines_of rest
unfolding lines_from
first_line [] held rest h = rw (append-nil held)
first_line (x ∷ line) held rest h =
    let k = longer x line h in
    rw k.0 (first_line line (held ++ (x ∷ [])) rest k.1 ∙ ap (λ (l : List ℕ). l ∷ lines_of rest) (append_assoc held (x ∷ []) line))

held_line : (line held : List ℕ) → Line line → lines_from line held ≡ last_line (held ++ line)
unfolding lines_from
held_line [] held h = rw (append-nil held)
held_line (x ∷ line) held h =
    let k = longer x line h in
    rw k.0 (held_line line (held ++ (x ∷ [])) k.1 ∙ ap last_line (append_assoc held (x ∷ []) line))

-- a last line needs no newline
pub last_line_lem : (line : List ℕ) → Line line → lines_of line ≡ last_line line
last_line_lem line h = held_line line [] h

-- lines that are joined are the lines of the input, and behind them the lines of what follows
pub lines_joined : (lines : List (List ℕ)) (rest : List ℕ) → Lines lines → lines_of (joined lines ++ rest) ≡ lines ++ lines_of rest
lines_joined [] rest h = refl
lines_joined (line ∷ lines) rest h =
    rw (append_assoc line (newline ∷ joined lines) rest) (first_line line [] (joined lines ++ rest) h.0 ∙ ap (λ (l : List (List ℕ)). line ∷ l) (lines_joined lines rest h.1))

-- every input is lines, a newline behind each, and a last line, which may be empty
pub record Split (input : List ℕ) : Type 0 where
  pub lines : List (List ℕ)
  pub last : List ℕ
  pub ended : Lines lines
  pub rest : Line last
  pub all : input ≡ joined lines ++ last

pub split : (input : List ℕ) → Split input
unfolding line_length
split [] = record { lines = []; last = []; ended = tt; rest = refl; all = refl }
split (x ∷ input) = go (eqb x newline) refl (split input)
  where
    begin : (lines : List (List ℕ)) (last : List ℕ) → eqb x newline ≡ false → Lines lines → Line last → input ≡ joined lines ++ last → Split (x ∷ input)
    begin [] last e h o a = record { lines = []; last = x ∷ last; ended = tt; rest = rw e (ap suc o); all = ap (λ (l : List ℕ). x ∷ l) a }
    begin (line ∷ lines) last e h o a = record { lines = (x ∷ line) ∷ lines; last = last; ended = (rw e (ap suc h.0), h.1); rest = o; all = ap (λ (l : List ℕ). x ∷ l) a }

    go : (b : Bool) → eqb x newline ≡ b → Split input → Split (x ∷ input)
    go true e s = record { lines = [] ∷ s.lines; last = s.last; ended = (refl, s.ended); rest = s.rest; all = rw (eqb-true x newline e, s.all) }
    go false e s = begin s.lines s.last e s.ended s.rest s.all

-- the text of a whole input: the heading and the answers of its lines, one after the other
pub whole : (lines : List (List ℕ)) (last : List ℕ) → Lines lines → Line last → output_of (joined lines ++ last) ≡ heading ++ answers_from fresh_stored (lines ++ last_line last)
unfolding output_of
whole lines last h o = rw (lines_joined lines last h, last_line_lem last o)
