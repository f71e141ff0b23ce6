pub mod Format
pub mod TaggedRecords
