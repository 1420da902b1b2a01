-- Cases, and what rows do to them.
pub mod Measures
pub mod Rows
pub mod Cases
pub mod States
pub mod Foretold
pub mod Levels
pub mod Commands
