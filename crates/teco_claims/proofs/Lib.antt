mod Prelude
pub mod Claiming
pub mod Parts
pub mod Rising
pub mod Terms
pub mod Typed
