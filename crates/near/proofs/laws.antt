pub mod Off
pub mod OffRange
pub mod Same
pub mod Sounded
pub mod Crossed
pub mod Down
pub mod Early
pub mod Within
