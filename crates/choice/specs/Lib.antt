-- The root of the choice's definitions.
pub mod Chosen
pub mod Cases
