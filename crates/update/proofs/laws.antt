pub mod Foreseen
pub mod Level
pub mod Settled
pub mod Applied
pub mod Single
pub mod Whole
