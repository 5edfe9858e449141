pub mod Shift
pub mod Needed
