-- What readings find, by which pages, and that it stays.
pub mod Lookups
pub mod Ranges
pub mod Visits
pub mod Alike
pub mod Steady
pub mod Differs
pub mod Same
pub mod Lives
pub mod Telling
pub mod Readings
