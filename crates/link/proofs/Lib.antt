-- The root of the link's lemmas.
pub mod Alike
pub mod Clauses
pub mod Cuts
pub mod Fixed
pub mod Runs
pub mod Solo
pub mod Sound
pub mod Once
pub mod Cutting
pub mod Whole
pub mod Bounding
