pub mod Ready
pub mod Due
pub mod Version
pub mod Skip
pub mod Whole
