pub mod Committing
pub mod Pruning
pub mod Returning
pub mod Turning
pub mod Updating
