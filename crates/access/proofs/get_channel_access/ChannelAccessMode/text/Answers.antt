use Rattle.access.proofs.get_channel_access.ChannelAccessMode.text.Goals as goal

pub returns-in-PreBootOnly : goal.returns-in-PreBootOnly
returns-in-PreBootOnly c = rw c.in-PreBootOnly.is c.place-in-PreBootOnly.ensures

pub returns-in-AlwaysAvailable : goal.returns-in-AlwaysAvailable
returns-in-AlwaysAvailable c = rw c.in-AlwaysAvailable.is c.place-in-AlwaysAvailable.ensures
