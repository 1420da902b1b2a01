pub mod Fronts
pub mod Promised
pub mod Sums
