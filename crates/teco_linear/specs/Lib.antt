-- What linear forms are, and when constraints imply a target.
pub mod Form
pub mod Shared
pub mod Implied
pub mod Difference
