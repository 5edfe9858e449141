pub mod Both
pub mod Due
pub mod Single
pub mod Going
pub mod Pass
