-- Lemmas of searches and pages.
mod Prelude
pub mod Parting
pub mod Matching
pub mod Ending
pub mod Searching
pub mod Seeking
pub mod Paging
pub mod Looking
