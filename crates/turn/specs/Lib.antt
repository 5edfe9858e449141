pub mod Past
pub mod Turned
pub mod Slotted
