pub mod Words
pub mod Steps
pub mod Filled
pub mod Answers
