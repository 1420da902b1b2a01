-- The laws of what the verifier knows, a file a subject.
pub mod Describes
pub mod Laws
pub mod Rows
pub mod SoundElements
pub mod SoundFlow
pub mod SoundSearches
pub mod SoundPages
pub mod SoundSeeking
pub mod Repeats
pub mod SoundSteps
