-- The words that the contracts of this crate are written in.
pub mod Failures
pub mod Files
pub mod Halts
pub mod Touched
pub mod Worlds
