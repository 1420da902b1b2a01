-- Elements, sessions, searches, skips and commands worked by hand, which the definition computes.
pub mod Elements
pub mod Sessions
pub mod Matches
pub mod Skips
pub mod Files
pub mod Pages
