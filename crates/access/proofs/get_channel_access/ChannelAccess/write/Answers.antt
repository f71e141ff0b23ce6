use mathlib.Core.Path.{◌≡◌}
use Rattle.std.proofs.Common.{Err, rules}
use Rattle.base.proofs.written.Laws.{refusing}
use Rattle.access.proofs.get_channel_access.ChannelAccess.write.Goals as goal

pub returns-in_err-bytes : goal.returns-in_err-bytes
returns-in_err-bytes c =
    let e : c.from_residual.result ≡ Err c.in_err-bytes.field-0.0 = search rules in
    rw e (refusing c.in_err-bytes.field-0.0 c.args.out.now (rw (← c.in_err-bytes.ensures)))
