pub mod Days
pub mod Answer
