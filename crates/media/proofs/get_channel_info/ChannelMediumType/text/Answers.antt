use Rattle.media.proofs.get_channel_info.ChannelMediumType.text.Goals as goal

pub returns-in-AsynchSerialModem : goal.returns-in-AsynchSerialModem
returns-in-AsynchSerialModem c = rw c.in-AsynchSerialModem.is c.place-in-AsynchSerialModem.ensures

pub returns-in-SmbusV1_0 : goal.returns-in-SmbusV1_0
returns-in-SmbusV1_0 c = rw c.in-SmbusV1_0.is c.place-in-SmbusV1_0.ensures

pub returns-in-Usb1X : goal.returns-in-Usb1X
returns-in-Usb1X c = rw c.in-Usb1X.is c.place-in-Usb1X.ensures

pub returns-in-Usb2X : goal.returns-in-Usb2X
returns-in-Usb2X c = rw c.in-Usb2X.is c.place-in-Usb2X.ensures
