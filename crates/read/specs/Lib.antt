pub mod Project
pub mod Tables
pub mod Sections
pub mod Answers
