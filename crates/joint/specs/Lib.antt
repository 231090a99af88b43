-- The root of the definitions on two links side by side.
pub mod Sides
pub mod SidesLemmas
