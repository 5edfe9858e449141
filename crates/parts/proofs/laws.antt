pub mod Becomes
pub mod Free
pub mod Kept
