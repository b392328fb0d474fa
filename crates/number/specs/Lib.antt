pub mod Tests
pub mod Number
pub mod Whole
pub mod Floats
pub mod Duration
pub mod Written
pub mod Time
pub mod Order
