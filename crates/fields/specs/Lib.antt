pub mod Answers
pub mod Said
pub mod Hundredths
