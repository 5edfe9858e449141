-- Facts on lists that are not about stores.
pub mod Lists
pub mod Members
pub mod Bools
pub mod Rising
pub mod Merging
