pub mod ParentLaws
pub mod Ahead
pub mod Lists
pub mod Turns
pub mod Whole
pub mod Filling
pub mod Models
