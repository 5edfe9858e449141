-- Laws that belong to no one function.
pub mod Staying
pub mod Refusing
pub mod Keeping
pub mod Ranging
pub mod Settings
pub mod Telling
pub mod Passing
pub mod Replying
pub mod Whole
pub mod Pieces
