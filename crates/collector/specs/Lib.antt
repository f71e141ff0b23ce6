pub mod Collector
pub mod Demand
pub mod Histories
pub mod Parts
pub mod Shape
pub mod Stored
