pub mod Answer
pub mod Fields
