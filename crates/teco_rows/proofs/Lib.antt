-- Lemmas of cases and rows.
mod Prelude
pub mod Sums
pub mod Copies
pub mod Following
pub mod Applying
pub mod Registering
pub mod Pending
pub mod Describing
pub mod Giving
pub mod Closing
pub mod Commanding
pub mod Leading
pub mod Ways
pub mod Lines
pub mod Characters
pub mod Texts
