use Rattle.std.proofs.Common.{rules, tests}
use lib.Dec.{ltb}
use mathlib.Core.Path.{◌∙◌}
use Prim.Native.Nat.{ℕ}
use Rattle.std.proofs.lemmas.Iterator.{YieldsList-from_slice}
use Rattle.std.proofs.lemmas.Iterator.Search.{all_from_yields_List}
use Rattle.tagged.proofs.tagged_records.Writing.{all_fit_list}
use Rattle.tagged.proofs.tagged_records.all_fit.Goals as goal

pub returns : goal.returns
returns c = all_from_yields_List (λ (n : ℕ). ltb n 64) _ _ _ c.all.ensures.ran (YieldsList-from_slice c.args.numbers.now cc) (λ x b q k. search (rules, tests)) ∙ all_fit_list c.args.numbers.now
