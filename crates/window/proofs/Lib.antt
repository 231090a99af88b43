-- The lemmas of this crate; those on bits and remainders serve other crates too.
pub mod Bits
pub mod Mods
pub mod Turning
pub mod Wrap
