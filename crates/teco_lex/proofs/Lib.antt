pub mod BlankLen
pub mod FirstByte
pub mod Modifiers
