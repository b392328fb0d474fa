pub mod Cases
pub mod Dates
pub mod Fractions
pub mod Hand
pub mod Open
pub mod Plan
pub mod Rules
pub mod Yes
