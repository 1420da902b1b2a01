mod Prelude
mod Anchored
mod Marks
mod Matches
mod Naming
mod Needled
mod Starts
mod Succession
