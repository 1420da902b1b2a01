-- What proofs of this crate cite.
mod Answering
mod Ending
mod RoundTrip
mod Stating
mod Each
mod Spelling
