pub mod Down
pub mod Early
pub mod Crossed
pub mod Within
