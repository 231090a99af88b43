-- The root of the memory's lemmas.
pub mod Entries
pub mod Storing
pub mod Judging
pub mod Telling
pub mod Keeping
pub mod Placed
