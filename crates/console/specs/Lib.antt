pub mod Obeys
pub mod Runs
