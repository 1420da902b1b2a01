-- Lemmas of the laws.
pub mod Alike
pub mod Walking
pub mod Expanding
pub mod Edging
pub mod Within
pub mod Deriving
pub mod Lookup
pub mod Closing
pub mod Printing
pub mod Accepting
pub mod Worked
