pub mod Outcome
pub mod Outlines
pub mod Reads
