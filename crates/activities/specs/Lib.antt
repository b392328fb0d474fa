pub mod Values
pub mod Parents
pub mod Own
pub mod Climbing
