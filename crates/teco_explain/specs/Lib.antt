-- The numbers of reasons.
pub mod Numbers
