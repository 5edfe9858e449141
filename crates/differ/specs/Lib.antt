pub mod Merge
pub mod Listing
pub mod Side
pub mod Quiet
pub mod Leaves
