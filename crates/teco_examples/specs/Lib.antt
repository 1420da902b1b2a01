-- What holds of the examples in the comments of a library.
pub mod Examples
