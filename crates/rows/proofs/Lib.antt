pub mod Lasts
pub mod Walking
pub mod Listing
pub mod Filling
