-- The root of the ring's lemmas.
pub mod Places
pub mod Apart
pub mod Turns
