-- The root of the language's definitions.
pub mod Bytes
pub mod Parts
