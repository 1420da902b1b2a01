-- What is promised of a macro.
pub mod Promise
