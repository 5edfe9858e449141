-- What rules 1, 3 and 6 ask is kept on the way up: an update leaves a sound store sound.
pub mod OnePage
pub mod AllPages
pub mod WayUp
pub mod SoundAfter
pub mod Preserve
pub mod Gathers
pub mod Stops
