pub mod Across
pub mod Here
pub mod Told
pub mod Table
pub mod Cells
pub mod Skips
