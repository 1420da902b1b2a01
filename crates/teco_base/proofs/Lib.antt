mod Digits
mod Quotient
pub mod Results
