-- What the proofs of the functions share.
mod Prelude
pub mod Least
pub mod Ends
pub mod Linear
pub mod Places
pub mod Shares
pub mod Wholes
pub mod Shifted
pub mod Sides
pub mod Meeting
pub mod Settles
pub mod Popping
pub mod Joins
pub mod Joined
pub mod Pairs
