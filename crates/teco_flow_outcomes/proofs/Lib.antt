-- Lemmas of elements that decide where the text goes on.
mod Prelude
pub mod Arguing
pub mod Ranging
pub mod Turning
pub mod Branching
