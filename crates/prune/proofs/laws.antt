pub mod Pages
pub mod Whole
pub mod Needed
pub mod Shift
