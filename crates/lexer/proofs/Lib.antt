-- The root of the lemmas on the language.
pub mod Hexed
