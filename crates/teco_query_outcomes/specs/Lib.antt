-- What elements do to the measures of a state.
pub mod Queries
pub mod Pushes
pub mod Ways
pub mod Characters
pub mod Conversions
