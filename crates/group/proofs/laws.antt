pub mod Exchange
pub mod Group
pub mod Numbers
