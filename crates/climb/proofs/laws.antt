pub mod Rebuild
pub mod Climb
pub mod Work
