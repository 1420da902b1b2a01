mod Prelude
pub mod Integers
pub mod Values
pub mod Loops
pub mod Substitution
pub mod Judging
pub mod Differences
