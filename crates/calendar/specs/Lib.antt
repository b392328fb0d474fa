pub mod Hours
pub mod Week
pub mod Skipped
