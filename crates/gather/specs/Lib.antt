pub mod Gather
pub mod Place
pub mod Kept
