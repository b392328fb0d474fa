pub mod Fates
pub mod Given
pub mod More
pub mod Entered
