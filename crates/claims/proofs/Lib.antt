pub mod Collecting
pub mod Examples
pub mod Tagged
