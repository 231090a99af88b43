-- The root of the notices' lemmas.
pub mod Made
pub mod Shown
pub mod Orders
