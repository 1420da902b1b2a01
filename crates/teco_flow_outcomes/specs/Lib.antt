-- The law of an element, and what becomes of where the text goes on.
pub mod Law
pub mod Ranges
pub mod Flow
