-- Words of the list of changes.
pub mod Growing
pub mod Facts
pub mod Table
pub mod Seen
