pub mod laws
pub mod Values
pub mod Keys
pub mod Backs
pub mod Shows
pub mod Guards
pub mod Again
