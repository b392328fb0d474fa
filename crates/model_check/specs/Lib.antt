pub mod Kinds
pub mod Keys
pub mod Rules
pub mod Tables
pub mod Walk
