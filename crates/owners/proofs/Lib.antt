-- The root of the page owners' lemmas.
pub mod Chaining
pub mod Undoing
pub mod Transfers
pub mod Freeing
pub mod Putting
pub mod Known
pub mod Ordering
pub mod Telling
