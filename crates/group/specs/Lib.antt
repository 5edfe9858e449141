pub mod Group
pub mod Numbers
