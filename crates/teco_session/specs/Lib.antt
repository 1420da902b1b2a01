-- The words that the contracts of this crate are written in.
pub mod Answers
pub mod Constants
pub mod FirstCode
pub mod Output
pub mod Sessions
pub mod Strings
pub mod Touched
