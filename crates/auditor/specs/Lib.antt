pub mod Engine
pub mod SideBySide
pub mod Linked
pub mod LinkedRun
