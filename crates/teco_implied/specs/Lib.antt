-- What is implied.
pub mod Implied
