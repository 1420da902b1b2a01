-- The words that the contracts of this crate are written in.
pub mod Witness
