-- The theorems: of any sound store, of every history, of every call.
pub mod Theorems
pub mod History
pub mod Undone
pub mod Numbered
pub mod Unique
pub mod Editions
pub mod OldPrograms
pub mod Extras
pub mod Sampled
