-- What the elements of a macro can do to a text.
pub mod Arguments
pub mod Changes
pub mod Characters
pub mod Elements
pub mod Laws
pub mod Nearby
pub mod Plain
pub mod Rows
pub mod Told
pub mod Worlds
