pub mod Parts
pub mod Cut
pub mod Signs
pub mod Whole
pub mod Ranges
