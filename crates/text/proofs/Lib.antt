pub mod Digits
pub mod Equal
pub mod Reversed
pub mod Signs
pub mod Strip
pub mod Wellformed
