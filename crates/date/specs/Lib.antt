pub mod Answer
pub mod Scale
