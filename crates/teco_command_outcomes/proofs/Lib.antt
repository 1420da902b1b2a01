-- Lemmas of commands.
mod Prelude
pub mod Lining
pub mod Cutting
pub mod Deleting
pub mod Passing
pub mod Storing
pub mod Copying
pub mod Writing
