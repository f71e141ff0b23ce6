use Rattle.std.specs.Prelude.{◌≡◌, Err}
use Rattle.std.proofs.Common.{rules}
use Rattle.base.proofs.written.Laws.{refusing}
use Rattle.auth.proofs.get_channel_authentication_capabilities.GetChannelAuthenticationCapabilities.write.Goals as goal

pub returns-in_err-number : goal.returns-in_err-number
returns-in_err-number c =
    let e : c.from_residual.result ≡ Err c.in_err-number.field-0.0 = search rules in
    rw e (refusing c.in_err-number.field-0.0 c.args.out.now (rw (← c.in_err-number.ensures)))
