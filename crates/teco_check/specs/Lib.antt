-- The words of the contracts.
pub mod Seen
pub mod Searched
pub mod Placed
pub mod Allowed
pub mod Shifts
pub mod Here
pub mod Kept
pub mod Says
pub mod Rounds
pub mod Writes
pub mod Ways
pub mod Known
pub mod Derived
pub mod Onward
