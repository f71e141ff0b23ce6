pub mod Algorithms
pub mod Auth
pub mod GetChannelAuthenticationCapabilities
pub mod Session
