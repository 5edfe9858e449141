pub mod Ended
pub mod Exactly
pub mod Leaves
pub mod Places
pub mod Opened
pub mod Settled
