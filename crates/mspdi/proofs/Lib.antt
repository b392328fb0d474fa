pub mod Left
pub mod Natural
