pub mod Append
pub mod Halfway
pub mod Past
pub mod Leaves
pub mod Listing
pub mod Merge
pub mod Quiet
pub mod Side
