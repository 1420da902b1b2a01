pub mod Constants
pub mod Names
