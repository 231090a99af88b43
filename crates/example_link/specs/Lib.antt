-- The root of the lamp's definitions.
pub mod Lamp
pub mod Lamps
pub mod Seen
