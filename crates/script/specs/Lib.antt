-- The root of the scenario language's definitions.
pub mod Faults
