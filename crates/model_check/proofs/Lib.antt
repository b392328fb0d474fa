pub mod Scan
pub mod Keyed
pub mod Whole
pub mod Right
pub mod Twins
pub mod Tabled
pub mod Walking
