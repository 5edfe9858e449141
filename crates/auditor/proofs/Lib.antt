pub mod SideBySide
pub mod Linked
pub mod LinkedRun
