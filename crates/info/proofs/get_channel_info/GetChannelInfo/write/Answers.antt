use mathlib.Core.Path.{◌≡◌}
use Rattle.std.proofs.Common.{Err, rules}
use Rattle.base.proofs.written.Laws.{refusing}
use Rattle.info.proofs.get_channel_info.GetChannelInfo.write.Goals as goal

pub returns-in_err-field : goal.returns-in_err-field
returns-in_err-field c =
    let e : c.from_residual.result ≡ Err c.in_err-field.field-0.0 = search rules in
    rw e (refusing c.in_err-field.field-0.0 c.args.out.now (rw (← c.in_err-field.ensures)))
