-- What an edit must not do to a text, and what the calls of this crate say of it.
pub mod Lines
pub mod Policies
pub mod Refusals
pub mod Subsequences
pub mod Walks
pub mod Wordings
pub mod Words
