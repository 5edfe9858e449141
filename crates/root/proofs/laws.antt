pub mod Moved
pub mod Renew
pub mod Root
pub mod Slotted
