-- Lemmas of the contracts.
mod Numbers
pub mod Late
