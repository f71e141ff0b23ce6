pub mod Laws
pub mod Session
pub mod Unique
