-- What an update leaves alone: older versions, and all that an abandon brings back.
pub mod Old
pub mod Between
pub mod Back
pub mod Undo
pub mod Past
