-- What the edits of files do, what is printed of them, and what comes of them.
pub mod Files
pub mod Objects
pub mod Outcomes
