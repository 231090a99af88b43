-- The root of the notices' definitions.
pub mod Blocks
pub mod Said
pub mod Boards
pub mod Law
