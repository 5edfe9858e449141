pub mod Lived
