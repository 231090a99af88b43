-- The definitions that the contracts of this crate cite.
pub mod Early
pub mod Fixed
pub mod Since
pub mod Sinking
pub mod Sinks
pub mod Stored
pub mod Taken
pub mod Waiting
pub mod Bounds
pub mod Laws
pub mod Cutting
pub mod Keeping
pub mod Mods
pub mod Going
