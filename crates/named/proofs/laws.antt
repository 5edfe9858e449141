pub mod Answers
pub mod Onward
