mod Prelude
pub mod Worked
pub mod WorkedPages
pub mod WorkedSkips
pub mod WorkedElements
pub mod Chains
pub mod Progress
pub mod Standing
pub mod Ahead
pub mod SkipSteps
pub mod Digits
pub mod MatchWorked
pub mod Searches
mod Joined
pub mod Coded
pub mod Bytes
pub mod Lines
pub mod Reading
pub mod upkeep
