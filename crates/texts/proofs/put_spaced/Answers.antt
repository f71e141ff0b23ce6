use mathlib.Core.Path.{refl}
use native.Mathlib.Omega.{arith}
use lib.ListN.{length}
use Rattle.lines.specs.Lines.{decimal}
use Rattle.texts.proofs.Laws.{◌then◌, appended, wrote_behind}
use Rattle.texts.proofs.put_spaced.Goals as goal

pub past-requires : goal.past-requires
past-requires c =
    let h = wrote_behind (length c.put-first.new.into) c.put-first.new.into c.put-first.result refl (decimal c.args.n) _ c.decimal-written.ensures (omega arith) in
    omega arith

pub returns : goal.returns
returns c = c.put-first.ensures then appended c.put-first.new.into c.put-first.result (decimal c.args.n) _ c.past.result c.decimal-written.ensures (omega arith) c.past.ensures
