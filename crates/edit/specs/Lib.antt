pub mod Fate
pub mod Sift
pub mod Same
pub mod Place
pub mod Change
pub mod Fill
