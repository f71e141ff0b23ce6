pub mod Collected
pub mod GetChannelCipherSuites
