-- What proofs of this crate and of those above cite.
pub mod Fronts
mod Unmarked
