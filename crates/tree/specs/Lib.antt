pub mod Place
pub mod Walks
pub mod Answer
pub mod Root
pub mod Few
pub mod Lists
