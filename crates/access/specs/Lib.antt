pub mod GetChannelAccess
