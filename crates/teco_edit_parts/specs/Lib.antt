pub mod Choices
pub mod Typed
