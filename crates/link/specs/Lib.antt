-- The root of the link's definitions.
pub mod Answers
pub mod Bounds
pub mod Numbered
pub mod Text
pub mod Packets
pub mod Meaning
pub mod Meets
pub mod Optional
pub mod Terms
pub mod Steps
pub mod Once
pub mod Quiet
pub mod Cutting
