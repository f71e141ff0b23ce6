use mathlib.Core.Path.{◌≡◌, refl, sym, ◌∙◌}
use native.Mathlib.Omega.{arith}
use Prim.Native.Nat.{◌-◌, ◌≤◌}
use Rattle.collector.specs.Shape.{most}
use Rattle.collector.proofs.shape.Laws.{at_within, most_part, tail_tells, free_within, top_within, holes_tell}
use Rattle.collector.proofs.shape.bytes_fit.Goals as goal

pub slice_bounds-most-count : goal.slice_bounds-most-count
slice_bounds-most-count c = let a = c.args in omega (arith, at_within a.bytes.now a.marks.now a.shape c.requires c.length_by-end.result c.length_by-end.ensures)

pub slice_bounds-most-start : goal.slice_bounds-most-start
slice_bounds-most-start c = let a = c.args in omega (arith, at_within a.bytes.now a.marks.now a.shape c.requires c.length_by-end.result c.length_by-end.ensures)

pub returns-then-most-ne0 : goal.returns-then-most-ne0
returns-then-most-ne0 c =
    let a = c.args in
    let at = c.length_by-end.result in
    let l : at ≤ 1024 = at_within a.bytes.now a.marks.now a.shape c.requires at c.length_by-end.ensures in
    let m : c.most.result ≡ most a.bytes.now at (1024 - at) = c.most.ensures ∙ most_part a.bytes.now at (1024 - at) (omega arith) in
    sym (tail_tells a.bytes.now a.marks.now a.shape c.requires at c.length_by-end.ensures (λ q. c.if-most-ne0.true (m ∙ q)))

pub overflow_sub-low : goal.overflow_sub-low
overflow_sub-low c =
    let a = c.args in
    omega (arith, free_within a.bytes.now a.marks.now a.shape c.requires c.length_by-end.result c.length_by-end.ensures)

pub holes-requires : goal.holes-requires
holes-requires c =
    let a = c.args in
    omega (arith, top_within a.bytes.now a.marks.now a.shape c.requires c.length_by-end.result c.length_by-end.ensures)

pub returns : goal.returns
returns c =
    let a = c.args in
    let at = c.length_by-end.result in
    let l : at ≤ 1024 = at_within a.bytes.now a.marks.now a.shape c.requires at c.length_by-end.ensures in
    let m : c.most.result ≡ most a.bytes.now at (1024 - at) = c.most.ensures ∙ most_part a.bytes.now at (1024 - at) (omega arith) in
    rw c.holes.ensures (holes_tell a.bytes.now a.marks.now a.shape c.requires at c.length_by-end.ensures (sym m ∙ c.if-most-ne0.false) _ _ refl refl)
