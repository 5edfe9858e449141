-- Calls that turn a store: open, commit, fresh, abandon, prune, the return, the converter.
pub mod Turns
pub mod Abandon
pub mod Prune
pub mod Remade
pub mod Returned
pub mod Converted
pub mod Converting
