-- What sources say, and where the places of a file are for its reader.
pub mod Source
pub mod Places
pub mod Scripts
