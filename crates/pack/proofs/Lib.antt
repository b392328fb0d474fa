pub mod Puts
pub mod TextBits
pub mod RecordBits
