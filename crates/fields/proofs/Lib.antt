pub mod Empty
pub mod Unsigned
