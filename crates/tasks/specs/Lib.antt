pub mod Format
pub mod Task
pub mod Link
