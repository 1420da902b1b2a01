-- How the values of this crate are seen as those of the definition.
pub mod Ahead
pub mod Blanks
pub mod Reader
pub mod Reading
pub mod Readings
pub mod Texts
