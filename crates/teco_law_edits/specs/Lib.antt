pub mod Texts
pub mod Strict
pub mod Bounds
pub mod Changed
