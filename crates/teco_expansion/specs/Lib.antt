-- What the contracts of this crate say of its types.
pub mod Crossed
pub mod Expands
pub mod Few
pub mod Linking
pub mod Refused
pub mod Room
pub mod Same
pub mod Scanned
pub mod Seen
pub mod Texts
pub mod Walks
