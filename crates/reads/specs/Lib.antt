pub mod Guard
pub mod Reading
pub mod Living
pub mod Differing
