pub mod Made
pub mod OwnTexts
pub mod Reversed
pub mod Whole
