use mathlib.Core.Path.{refl}
use native.Mathlib.Omega.{arith}
use lib.ListN.{length}
use Rattle.texts.proofs.Laws.{appended, wrote_behind}
use Rattle.texts.proofs.put.Goals as goal

pub past-requires : goal.past-requires
past-requires c =
    let e = wrote_behind (length c.args.into.now) c.args.into.now c.args.at refl c.args.piece.now _ c.place-written.ensures (omega arith) in
    omega arith

pub returns : goal.returns
returns c = appended c.args.into.now c.args.at c.args.piece.now _ c.past.result c.place-written.ensures (omega arith) c.past.ensures
