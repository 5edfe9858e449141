pub mod Way
pub mod Lived
pub mod Still
