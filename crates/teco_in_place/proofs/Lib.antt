-- What proofs of this crate, and of others, cite.
mod Calls
mod Editing
pub mod Fitting
