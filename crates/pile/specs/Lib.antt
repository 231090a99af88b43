-- The root of the pile's definitions.
pub mod Piles
