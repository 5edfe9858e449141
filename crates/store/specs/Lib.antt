pub mod Slots
pub mod Header
pub mod Pages
pub mod Holds
pub mod Set
pub mod Tested
pub mod Fresh
pub mod Editions
