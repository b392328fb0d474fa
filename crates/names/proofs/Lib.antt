pub mod Starred
pub mod Found
pub mod Chained
pub mod Placing
pub mod Wording
pub mod Answered
