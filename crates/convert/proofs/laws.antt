pub mod Guard
pub mod Pass
pub mod Due
pub mod Ready
pub mod Skip
pub mod Version
pub mod Whole
