mod Prelude
mod Turns
mod FlowWays
mod StepWays
pub mod Comparing
mod Visiting
mod Linking
mod Texts
mod StayLoaded
mod Shifting
mod Iterations
mod Leading
pub mod Runs
mod Ends
mod Places
mod Worked
mod Alike
pub mod Given
pub mod Targets
pub mod Lookup
mod Whole
pub mod Walking
pub mod Staying
pub mod Sure
pub mod Keeping
pub mod Pending
pub mod Framing
