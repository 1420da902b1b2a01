mod Asked
mod InPlace
mod Tasks
