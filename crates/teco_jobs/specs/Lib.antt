pub mod Edits
pub mod Following
pub mod InMemory
pub mod Openings
pub mod Strict
pub mod Terms
pub mod Traces
