pub mod Going
pub mod Pass
