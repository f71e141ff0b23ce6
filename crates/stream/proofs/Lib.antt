pub mod Law
pub mod Laws
pub mod Unique
