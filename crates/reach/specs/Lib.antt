pub mod Pending
pub mod Versions
