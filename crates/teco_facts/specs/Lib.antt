-- The words of the contracts.
pub mod Numbers
pub mod Least
pub mod Each
pub mod Settled
pub mod Does
pub mod Joined
pub mod Searched
pub mod Room
