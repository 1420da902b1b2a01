-- One walk over the definition of a step: what each element leaves is upheld.
pub mod Levels
pub mod Edits
pub mod Registers
pub mod Pages
pub mod Searches
pub mod Turns
pub mod Replies
