-- The lemmas of this crate.
pub mod Fixing
pub mod Steps
pub mod Vectors
