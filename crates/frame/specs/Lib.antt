-- The root of the frame's definitions.
pub mod Worlds
pub mod Frames
