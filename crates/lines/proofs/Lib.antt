-- Laws that belong to no one function.
pub mod Cutting
pub mod Numbers
pub mod Keeping
pub mod Streams
pub mod Steps
pub mod Laying
pub mod Readback
pub mod LineParts
