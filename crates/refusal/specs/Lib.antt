-- The root of the refusals' definitions.
pub mod Numbers
pub mod Parties
pub mod Spots
pub mod Texts
pub mod Chains
