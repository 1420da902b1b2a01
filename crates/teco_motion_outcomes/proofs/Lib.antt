-- Lemmas of motions and insertions.
mod Prelude
pub mod Changing
pub mod Codes
pub mod Moving
pub mod Placing
pub mod Inserting
