-- The root of the page owners' definitions.
pub mod Naming
pub mod Claims
pub mod Puts
pub mod Taken
