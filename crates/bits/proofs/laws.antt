pub mod Append
pub mod Laws
pub mod Lay
pub mod Over
pub mod Put
pub mod Rows
pub mod Whole
