pub mod Plain
pub mod Base
pub mod Record
pub mod Built
