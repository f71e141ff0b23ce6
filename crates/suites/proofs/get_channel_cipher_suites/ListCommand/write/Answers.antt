use mathlib.Core.Path.{◌≡◌}
use Rattle.std.proofs.Common.{Err, rules}
use Rattle.base.proofs.written.Laws.{refusing}
use Rattle.suites.proofs.get_channel_cipher_suites.ListCommand.write.Goals as goal

pub returns-in_err-number : goal.returns-in_err-number
returns-in_err-number g c =
    let e : c.from_residual.result ≡ Err c.in_err-number.field-0.0 = search rules in
    rw e (refusing c.in_err-number.field-0.0 c.args.out.now (rw (← c.in_err-number.ensures)))

pub returns-in_err-index : goal.returns-in_err-index
returns-in_err-index g c =
    let e : c.from_residual-in_err-index.result ≡ Err c.in_err-index.field-0.0 = search rules in
    rw e (refusing c.in_err-index.field-0.0 c.args.out.now (rw (← c.in_ok-number.ensures, ← c.in_err-index.ensures)))
