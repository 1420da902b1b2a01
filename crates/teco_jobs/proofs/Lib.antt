pub mod InMemory
pub mod Openings
pub mod Steps
pub mod Strict
