-- What a library is, and what reading one gives.
pub mod Header
pub mod Library
pub mod Spans
pub mod Reads
