pub mod Tests
pub mod Gather
pub mod Kept
pub mod Place
