-- Proofs of this crate.
pub mod Following
pub mod Policies
