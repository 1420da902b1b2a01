-- When a call on the registers answers what, and what texts are handed in.
pub mod Answers
pub mod Texts
