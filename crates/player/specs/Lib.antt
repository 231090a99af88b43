-- The root of the player's definitions.
pub mod Carrying
pub mod Checksums
pub mod Building
