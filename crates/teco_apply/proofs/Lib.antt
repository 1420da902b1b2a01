-- Lemmas of runs.
mod Prelude
mod ByPages
mod Edits
mod FirstPage
mod InPlace
pub mod Opening
mod Parts
pub mod Sure
mod Touched
