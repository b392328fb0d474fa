pub mod Links
pub mod Counts
