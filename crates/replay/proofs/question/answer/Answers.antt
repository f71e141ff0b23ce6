use Prim.Native.Nat.{ℕ, ◌≤◌}
use mathlib.Core.Bool.{Bool, true, false}
use mathlib.Core.List.{List}
use mathlib.Core.Path.{◌≡◌, refl, sym}
use native.Mathlib.Omega.{arith}
use borrow.Author.Tests.{ltb-false}
use lib.Dec.{ltb}
use lib.ListN.{length, length-take}
use Rattle.std.specs.Prelude.{Ok, [], if◌then◌else◌}
use Rattle.base.specs.Outcome.{Outcome, accepted, refused, ◌>>=◌}
use Rattle.base.specs.Written.{Writes, written, length_of, over}
use Rattle.base.proofs.Outcome.{apart}
use Rattle.replay.proofs.question.answer.Goals as goal

-- what was written had room
within : {message : Outcome (List ℕ)} {n : ℕ} {before after : List ℕ} → Writes message (Ok n) before after → n ≤ length before
unfolding written length_of over
within {message = refused k v} w = absurd (apart (sym w.answers))
within {message = accepted m} {n} {before} w = go (ltb (length before) (length m)) refl w.answers
  where
    go : (x : Bool) → ltb (length before) (length m) ≡ x → accepted n ≡ ((if x then refused 11 [] else accepted m) >>= λ b. accepted (length b)) → n ≤ length before
    go true e f = absurd (apart (sym f))
    go false e f = let l : n ≡ length m = cc in omega (arith, ltb-false (length before) (length m) e)

pub slice_bounds-bytes-end : goal.slice_bounds-bytes-end
slice_bounds-bytes-end c = omega (arith, within (rw c.in-Ok.is at c.read_pairs.ensures), c.read_pairs.auto.out)

pub slice_bounds-question-end : goal.slice_bounds-question-end
slice_bounds-question-end c = rw length-take (omega (arith, within (rw c.in-Ok.is at c.read_pairs.ensures), c.read_pairs.auto.out))
