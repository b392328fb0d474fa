pub mod Texts
pub mod Times
pub mod Flags
pub mod Weeks
pub mod Counts
