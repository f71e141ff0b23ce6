use Rattle.base.specs.Outcome.{accepted}
use Rattle.capi.proofs.Laws.{coding_made}
use Rattle.capi.proofs.responses.ghj_capabilities.Goals as goal

pub returns-in-Ok : goal.returns-in-Ok
returns-in-Ok c = rw (← c.in-Ok.ensures) (coding_made accepted c.capabilities_layout.ensures c.code.ensures c.place.ensures)
