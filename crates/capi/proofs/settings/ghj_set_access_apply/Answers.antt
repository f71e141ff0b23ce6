use Rattle.base.specs.Outcome.{accepted}
use Rattle.base.specs.declared.connection.Channel.TheVariants.{Primary}
use Rattle.capi.proofs.Laws.{coding_made}
use Rattle.capi.proofs.settings.Laws.{applied_of}
use Rattle.capi.proofs.settings.ghj_set_access_apply.Goals as goal

pub returns-in-Ok : goal.returns-in-Ok
returns-in-Ok c =
    let e = applied_of c.from.ensures c.from-2.ensures c.access_record.ensures Primary c.settings_record.ensures c.apply.ensures c.in-Ok.is in
    rw e (coding_made accepted c.settings_layout.ensures c.code.ensures c.place.ensures)
