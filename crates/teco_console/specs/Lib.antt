-- What writing does, which source is read, and up to which N a promise holds.
pub mod Macros
pub mod Outcomes
pub mod Output
pub mod Sources
pub mod Premise
pub mod Searches
pub mod Settings
