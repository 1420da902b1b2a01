mod Prelude
pub mod Bytes
pub mod Copied
pub mod Cuts
pub mod Fitting
pub mod Puts
pub mod Named
pub mod Reading
pub mod Ready
pub mod Rest
pub mod Shifted
pub mod Told
pub mod Touching
pub mod Walks
pub mod Written
