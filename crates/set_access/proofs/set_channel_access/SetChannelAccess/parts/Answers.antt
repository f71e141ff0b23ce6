use mathlib.Core.Path.{sym}
use native.Mathlib.Omega.{arith}
use Rattle.std.proofs.lemmas.Grind.{common_steps}
use Rattle.access.proofs.get_channel_access.Laws.{access_two}
use Rattle.set_access.proofs.set_channel_access.Laws.{pair_kept}
use Rattle.set_access.proofs.set_channel_access.SetChannelAccess.parts.Goals as goal

pub returns : goal.returns
returns c =
    let self = c.args.self in
    let e = sym c.in_ok-first.ensures in
    let small = access_two self.access e in
    let mode = ((pair_kept self.mode_pair).1 c.in_ok-mode.mode (sym c.in_ok-mode.ensures)).0 in
    let limit = ((pair_kept self.limit_pair).1 c.in_ok-limit.limit (sym c.in_ok-limit.ensures)).0 in
    rw (← c.in_ok-mode.ensures, ← c.in_ok-limit.ensures, e) (grind (arith, common_steps))
