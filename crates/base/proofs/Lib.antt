pub mod Named
pub mod Outcome
pub mod Rows
pub mod Said
pub mod Unique
pub mod Verdict
