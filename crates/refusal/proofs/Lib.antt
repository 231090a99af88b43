-- The root of the refusals' lemmas.
pub mod Judging
