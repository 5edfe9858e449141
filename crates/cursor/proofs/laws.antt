pub mod Stretch
pub mod First
pub mod Leaf
pub mod Reaches
