-- The root of the frame's lemmas.
pub mod Same
pub mod Written
pub mod Putting
pub mod Reaping
pub mod Claiming
pub mod Queueing
pub mod Acting
pub mod Reading
pub mod Happening
