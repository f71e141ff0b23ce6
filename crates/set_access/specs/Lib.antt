pub mod SetChannelAccess
