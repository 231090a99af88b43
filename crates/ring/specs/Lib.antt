-- The root of the ring's definitions.
pub mod Rings
