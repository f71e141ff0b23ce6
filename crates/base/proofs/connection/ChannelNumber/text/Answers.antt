use borrow.Author.Tests.{lt-ltb, le-ltb}
use Rattle.base.proofs.connection.ChannelNumber.text.Goals as goal

pub returns-then-value-lt16 : goal.returns-then-value-lt16
returns-then-value-lt16 c =
    let d = c in
    simp (lt-ltb _ _ d.if-value-lt16.true, ← d.digit.ensures) c.place.ensures

pub returns : goal.returns
returns c =
    let d = c in
    simp (le-ltb _ _ d.if-value-lt16.false, ← d.digit-2.ensures, ← d.digit-3.ensures) c.place-2.ensures
