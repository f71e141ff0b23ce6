use Rattle.base.proofs.connection.Channel.text.Goals as goal

pub returns-in-Current : goal.returns-in-Current
returns-in-Current c = rw c.in-Current.is c.place-in-Current.ensures

pub returns-in-System : goal.returns-in-System
returns-in-System c = rw c.in-System.is c.place-in-System.ensures
