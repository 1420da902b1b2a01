-- Straight text, and what the verifier makes of it.
pub mod Straight
pub mod Nodes
pub mod Facts
pub mod Accepted
pub mod Rows
