-- What runs of scripts did.
pub mod Codes
pub mod Starts
pub mod Scripts
