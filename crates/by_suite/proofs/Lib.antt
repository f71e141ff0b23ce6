pub mod Demand
pub mod Project
pub mod Reach
pub mod Unique
