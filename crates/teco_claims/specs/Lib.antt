-- Claims at cut points, and their text.
pub mod Values
pub mod Text
pub mod Spelled
pub mod Front
pub mod Reads
