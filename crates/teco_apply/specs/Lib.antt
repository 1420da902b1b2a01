-- What the runs of verified macros do.
pub mod Apply
pub mod ByPages
pub mod Constants
pub mod InPlace
pub mod Sure
pub mod Touched
