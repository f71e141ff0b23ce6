use mathlib.Core.Path.{sym, ◌∙◌}
use Rattle.base.specs.declared.refusal.Refusal.TheVariants.{NoForm}
use Rattle.base.proofs.written.Laws.{refusing}
use Rattle.tagged.proofs.tagged_records.Writing.{as_written}
use Rattle.tagged.proofs.tagged_records.write.Goals as goal

pub returns-then-not-fits : goal.returns-then-not-fits
returns-then-not-fits c = refusing NoForm c.args.out.now (simp (sym (c.fits.ensures c.args.number) ∙ c.if-not-fits.true))

pub returns-in-Standard : goal.returns-in-Standard
returns-in-Standard c =
    let a = c.args in
    let w = as_written a.owner a.number a.authentication a.integrity.now a.confidentiality.now (sym (c.fits.ensures a.number) ∙ c.if-not-fits.false) in
    rw (w, c.in-Standard.is) c.write_parts.ensures

pub returns-in-Vendor : goal.returns-in-Vendor
returns-in-Vendor c =
    let a = c.args in
    let w = as_written a.owner a.number a.authentication a.integrity.now a.confidentiality.now (sym (c.fits.ensures a.number) ∙ c.if-not-fits.false) in
    rw (w, c.in-Vendor.is) (rw c.bytes.ensures at c.write_parts-in-Vendor.ensures)
