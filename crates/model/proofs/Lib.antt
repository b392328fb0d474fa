pub mod Single
pub mod Several
pub mod Through
