pub mod Value
pub mod Record
pub mod Writes
