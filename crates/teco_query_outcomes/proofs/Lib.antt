-- Lemmas of elements that answer with a value.
mod Prelude
pub mod Valuing
pub mod Asking
pub mod Pushing
pub mod Reading
pub mod Converting
