pub mod Looking
pub mod Stating
pub mod Differing
pub mod Guard
pub mod Living
pub mod Reading
