use mathlib.Core.Path.{sym, ◌∙◌}
use Rattle.collector.proofs.Entries.{formed_not, formed_by}
use Rattle.collector.proofs.shape.well_formed.Goals as goal

pub returns-then-marks_fit : goal.returns-then-marks_fit
returns-then-marks_fit c =
    let a = c.args in
    c.bytes_fit.ensures ∙ sym (formed_by a.bytes.now a.marks.now a.shape c.requires (sym c.marks_fit.ensures ∙ c.if-marks_fit.true))

pub returns : goal.returns
returns c =
    let a = c.args in
    sym (formed_not a.bytes.now a.marks.now a.shape c.requires (sym c.marks_fit.ensures ∙ c.if-marks_fit.false))
