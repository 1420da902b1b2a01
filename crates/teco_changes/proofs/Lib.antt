-- Lemmas of the laws.
mod Worked
pub mod Turns
pub mod Matches
pub mod Elements
pub mod Replaced
pub mod Unchanged
pub mod Numerals
pub mod Closure
pub mod Plainly
pub mod Lasts
pub mod OneTaken
