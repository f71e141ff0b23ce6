use native.Mathlib.Omega.{arith}
use lib.ListN.{length}
use Rattle.base.proofs.written.Laws.{lacking}
use Rattle.base.proofs.Verdict.{gave}
use Rattle.collector.specs.Stored.{taking_stored}
use Rattle.texts.specs.Texts.{block_text}
use Rattle.dump.proofs.Laws.{text_taken}
use Rattle.dump.proofs.without_room.Goals as goal

pub returns-in-Ok : goal.returns-in-Ok
returns-in-Ok c =
    text_taken c.args.collector.now c.args.index c.args.response.now _ (gave (taking_stored c.args.collector.now c.args.index c.args.response.now) c.answer_in.ensures c.in-Ok.is)
    (lacking (block_text c.args.index (length c.args.response.now)) c.args.out.now (omega arith))
