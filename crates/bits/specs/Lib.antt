pub mod Clear
pub mod Over
pub mod Places
pub mod Reads
pub mod Steps
pub mod Moves
pub mod Round
pub mod Window
