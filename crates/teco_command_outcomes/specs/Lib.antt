-- What commands do to the measures of a state.
pub mod LineMotions
pub mod Deletions
pub mod Texts
pub mod Typings
