pub mod Section
pub mod Finders
pub mod Records
pub mod Charged
pub mod InUse
pub mod Resources
