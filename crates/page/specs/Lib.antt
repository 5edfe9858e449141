pub mod Head
pub mod Read
pub mod Exact
pub mod Over
pub mod Stage
pub mod Insert
pub mod Apart
