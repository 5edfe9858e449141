pub mod Kept
pub mod Becomes
pub mod Free
