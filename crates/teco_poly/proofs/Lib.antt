mod Prelude
pub mod Fitting
pub mod Arrays
pub mod Values
pub mod Products
pub mod Powers
pub mod Digits
pub mod Front
pub mod Terms
pub mod Spelling
pub mod Fronts
pub mod Items
pub mod Lawful
