pub mod Slotted
pub mod Root
pub mod Renew
