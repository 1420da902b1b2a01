-- A certificate's text, and what reading one gives.
pub mod Text
pub mod WellFormed
pub mod Reads
pub mod Laws
