pub mod Closing
pub mod Whole
pub mod Chains
pub mod Projects
pub mod Tables
pub mod Same
