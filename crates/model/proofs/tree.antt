-- The tree at the open version: an update changes the settings at its key alone.
pub mod Tree
pub mod Local
pub mod Place
pub mod Numbers
pub mod GroupPages
pub mod GroupShows
pub mod Shows
pub mod Climbs
pub mod Descend
pub mod Edit
pub mod UpdateChanges
pub mod Bridge
pub mod Nodes
pub mod Parents
