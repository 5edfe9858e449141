pub mod Work
pub mod Climb
