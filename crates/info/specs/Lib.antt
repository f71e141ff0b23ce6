pub mod GetChannelInfo
