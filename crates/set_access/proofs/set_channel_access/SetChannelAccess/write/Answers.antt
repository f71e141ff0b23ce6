use mathlib.Core.Path.{◌≡◌}
use Rattle.std.proofs.Common.{Err, rules}
use Rattle.base.proofs.written.Laws.{refusing}
use Rattle.set_access.proofs.set_channel_access.SetChannelAccess.write.Goals as goal

pub returns-in_err-number : goal.returns-in_err-number
returns-in_err-number c =
    let e : c.from_residual.result ≡ Err c.in_err-number.field-0.0 = search rules in
    rw e (refusing c.in_err-number.field-0.0 c.args.out.now (rw (← c.in_err-number.ensures)))

pub returns-in_err-mode : goal.returns-in_err-mode
returns-in_err-mode c =
    let e : c.from_residual-in_err-mode.result ≡ Err c.in_err-mode.field-0.0 = search rules in
    rw e (refusing c.in_err-mode.field-0.0 c.args.out.now (rw (← c.in_ok-number.ensures, ← c.in_err-mode.ensures)))
