pub mod Local
pub mod First
pub mod Second
pub mod Seventh
pub mod Eighth
pub mod Front
pub mod Right
