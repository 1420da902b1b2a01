pub mod InPlace
pub mod Tasks
