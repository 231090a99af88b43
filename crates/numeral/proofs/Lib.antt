-- The root of the lemmas on written numbers.
pub mod Folding
pub mod Values
