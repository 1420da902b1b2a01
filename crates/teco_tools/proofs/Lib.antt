-- What proofs of this crate cite.
mod Played
mod Settings
