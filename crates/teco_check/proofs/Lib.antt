-- What the proofs of the functions share.
mod Prelude
pub mod Searched
pub mod Deleted
pub mod Numbered
pub mod Ways
mod Wholes
pub mod Further
pub mod Writing
pub mod Arriving
pub mod Lines
pub mod Outside
mod Keeping
