use mathlib.Core.Path.{sym}
use Rattle.suites.proofs.get_channel_cipher_suites.Laws.{suites_given}
use Rattle.capi.proofs.Laws.{coding}
use Rattle.capi.proofs.responses.ghj_suites.Goals as goal

pub returns-in-Ok : goal.returns-in-Ok
returns-in-Ok c = rw (← c.in-Ok.ensures, suites_given _ _ (sym c.in-Ok.ensures)) (coding c.code.ensures c.place.ensures)
