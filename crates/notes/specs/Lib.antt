pub mod Notes
pub mod Linked
pub mod Kept
pub mod Ready
pub mod Pass
pub mod Over
pub mod Both
