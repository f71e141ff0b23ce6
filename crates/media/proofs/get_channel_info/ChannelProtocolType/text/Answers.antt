use Rattle.media.proofs.get_channel_info.ChannelProtocolType.text.Goals as goal

pub returns-in-TerminalMode : goal.returns-in-TerminalMode
returns-in-TerminalMode c = rw c.in-TerminalMode.is c.place-in-TerminalMode.ensures
