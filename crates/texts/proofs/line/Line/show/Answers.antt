use mathlib.Core.Path.{◌≡◌, ◌∙◌}
use mathlib.Core.List.{◌++◌}
use native.Mathlib.Omega.{arith}
use Prim.Native.Nat.{◌+◌, ◌-◌, ◌≤◌}
use borrow.Rule.Slice.PartMut.{put_mid}
use lib.ListN.{length, take, length-append}
use lib.Seq.{length-take-le}
use Rattle.texts.proofs.Laws.{wrote_behind, shown}
use Rattle.texts.proofs.line.Line.show.Goals as goal

-- the line is as long as its bytes are, and the piece has room behind them
room : (g : _) (c : goal.After-self-1 g) → c.self.inside.length + length (g.P.Piece.text c.args.piece) ≤ 160
room g c =
    let e : length c.args.self.now ≡ c.self.inside.length = rw (← c.self.view_is) (length-take-le c.self.inside.length c.self.inside.bytes (let i = c.self.invariant in omega arith)) in
    let r = c.requires in
    let f = c.write.ensures.fits in
    omega arith

count : (g : _) (c : goal.After-self-1 g) → c.unwrap_or-n.result ≡ length (g.P.Piece.text c.args.piece)
count g c = c.unwrap_or-n.ensures ∙ wrote_behind 160 c.self.inside.bytes c.self.inside.length c.self.told (g.P.Piece.text c.args.piece) _ c.write.ensures.writes (room g c)

after : (g : _) (c : goal.After-self-1 g) → take (c.self.inside.length + c.unwrap_or-n.result) (put_mid c.self.inside.length (160 - c.self.inside.length) c.self.inside.bytes c.write.new.out) ≡ c.args.self.now ++ g.P.Piece.text c.args.piece
after g c = rw (c.unwrap_or-n.ensures, ← c.self.view_is) (shown 160 c.self.inside.bytes c.self.inside.length c.self.told (g.P.Piece.text c.args.piece) _ c.write.ensures.writes (room g c))

pub overflow_add-self : goal.overflow_add-self
overflow_add-self g c =
    let e : length c.args.self.now ≡ c.self.inside.length = rw (← c.self.view_is) (length-take-le c.self.inside.length c.self.inside.bytes (let i = c.self.invariant in omega arith)) in
    let r = c.requires in
    let f = c.write.ensures.fits in
    let n = wrote_behind 160 c.self.inside.bytes c.self.inside.length c.self.told (g.P.Piece.text c.args.piece) _ c.write.ensures.writes (omega arith) in
    let u = c.unwrap_or-n.ensures in
    omega arith

pub invariant_of-self : goal.invariant_of-self
invariant_of-self g c = let n = count g c in let r = room g c in omega arith

pub returns-clause-after : goal.returns-clause-after
returns-clause-after g c = after g c

pub returns-clause-fits : goal.returns-clause-fits
returns-clause-fits g c = rw (after g c, length-append) (let f = c.write.ensures.fits in omega arith)
