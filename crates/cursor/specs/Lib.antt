pub mod First
pub mod Reaches
pub mod Leaf
