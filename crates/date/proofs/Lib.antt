pub mod Steps
pub mod Signs
pub mod Texts
