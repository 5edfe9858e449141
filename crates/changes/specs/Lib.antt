pub mod Turning
pub mod Updating
pub mod Returning
pub mod Pruning
