-- What proofs of this crate cite.
pub mod Asked
