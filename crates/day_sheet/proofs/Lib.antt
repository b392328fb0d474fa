pub mod Walks
pub mod Writes
pub mod Whole
