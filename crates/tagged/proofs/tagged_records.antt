pub mod Format
pub mod Listing
pub mod Places
pub mod Sequences
pub mod Steps
pub mod Writing
