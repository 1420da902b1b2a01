pub mod Declaring
pub mod OwnText
pub mod Registers
pub mod Ahead
