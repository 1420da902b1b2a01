-- What is accepted, and what is written of a refusal.
pub mod Lines
pub mod Refused
pub mod Accepted
pub mod Editions
pub mod Failing
