-- Lemmas of elements.
mod Prelude
pub mod Stepping
