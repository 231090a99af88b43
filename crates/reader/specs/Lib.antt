-- The definitions that the contracts of this crate cite.
pub mod Bytes
pub mod Fixed
pub mod Reading
pub mod Readers
pub mod Restarted
pub mod Seeking
pub mod Pipes
pub mod Walks
