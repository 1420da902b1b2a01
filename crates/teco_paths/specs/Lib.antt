-- When claims at cut points hang together, and what that says of runs.
pub mod Symbols
pub mod Facts
pub mod Claims
pub mod Runs
pub mod Paths
pub mod Steps
pub mod Entry
pub mod Meaning
pub mod Sure
