-- Where macros lie, how comments spell bytes, which texts words give, and what texts say as search texts.
pub mod Binding
pub mod Places
pub mod Quoting
pub mod Spelling
pub mod Words
