pub mod Applied
pub mod Whole
pub mod Single
