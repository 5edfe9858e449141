pub mod Passing
pub mod Promising
pub mod Offered
