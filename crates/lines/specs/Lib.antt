pub mod Console
pub mod Words
pub mod Reading
pub mod Places
pub mod Answers
pub mod Digits
pub mod Session
pub mod Examples
