-- What proofs of this crate cite.
mod Encoded
