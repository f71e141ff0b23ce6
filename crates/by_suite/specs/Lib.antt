pub mod ChannelCollector
pub mod Demand
pub mod GetChannelCipherSuites
