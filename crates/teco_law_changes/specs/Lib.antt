-- Laws of what a run changes.
pub mod Steps
pub mod Runs
