pub mod Appends
pub mod Texts
