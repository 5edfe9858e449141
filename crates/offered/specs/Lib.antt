pub mod Does
pub mod Promised
pub mod Offered
