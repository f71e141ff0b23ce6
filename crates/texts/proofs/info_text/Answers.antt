use mathlib.Core.Path.{◌≡◌}
use Rattle.texts.specs.Texts.{info_text}
use Rattle.texts.proofs.Laws.{info_line}
use Rattle.texts.proofs.info_text.Goals as goal

-- the calls, one behind the other
pub returns : goal.returns
returns c =
    let e : c.show-8.new.self ≡ info_text c.args.info =
    rw
    (c.show-8.ensures.after, c.push-8.ensures, c.show-7.ensures.after, c.push-7.ensures, c.show-6.ensures.after, c.push-6.ensures, c.show-5.ensures.after, c.push-5.ensures, c.show-4.ensures.after, c.push-4.ensures, c.show-3.ensures.after, c.push-3.ensures, c.show-2.ensures.after, c.push-2.ensures, c.show.ensures.after, c.push.ensures, c.new-line.ensures)
    (info_line c.args.info)
    in
    rw (← e) c.place.ensures
