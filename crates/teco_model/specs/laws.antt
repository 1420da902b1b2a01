-- Laws of the definition.
pub mod Whole
pub mod Matching
pub mod StepCodes
pub mod Upkeep
