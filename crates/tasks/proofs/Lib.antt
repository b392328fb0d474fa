pub mod Codes
pub mod Lags
pub mod Floats
