-- The words that the contracts of this crate, and the definition of the command machine, are written in.
pub mod Arithmetic
pub mod Bytes
pub mod Code
pub mod Constants
pub mod Does
pub mod Lines
pub mod NumberText
pub mod Register
pub mod Results
pub mod Text
