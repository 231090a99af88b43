-- The root of the memory's definitions.
pub mod Kinds
pub mod Walk
pub mod Store
pub mod Judge
pub mod Faults
pub mod Kept
