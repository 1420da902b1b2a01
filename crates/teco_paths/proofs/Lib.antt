-- Lemmas of paths.
mod Prelude
pub mod Ending
pub mod Symbols
pub mod Lists
pub mod Answered
pub mod Claiming
pub mod Standing
pub mod Skipping
pub mod Leading
pub mod Lawful
pub mod Stepping
pub mod Passing
pub mod Keeping
pub mod Sifting
pub mod Polynomials
pub mod Onward
pub mod Sharpening
pub mod Halving
pub mod Always
pub mod Beginning
pub mod Certain
pub mod Meant
