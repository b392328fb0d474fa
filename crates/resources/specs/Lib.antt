pub mod Assignment
pub mod Resource
