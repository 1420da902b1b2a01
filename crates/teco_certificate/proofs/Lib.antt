mod Prelude
pub mod Rising
pub mod Spelling
pub mod Unique
