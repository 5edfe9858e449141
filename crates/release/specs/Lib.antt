pub mod Settled
pub mod Opened
