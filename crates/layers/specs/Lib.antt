-- The root of the layers' definitions.
pub mod Patterns
pub mod Layered
