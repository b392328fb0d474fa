pub mod Scale
pub mod Sequence
pub mod Meaning
pub mod Kind
pub mod Element
pub mod Days
