pub mod Values
pub mod Words
pub mod Ids
pub mod Loop
pub mod Turn
