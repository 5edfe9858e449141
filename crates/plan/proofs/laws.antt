pub mod Plan
pub mod Way
