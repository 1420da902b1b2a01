pub mod LineEnds
pub mod LinePlaces
mod Gaps
