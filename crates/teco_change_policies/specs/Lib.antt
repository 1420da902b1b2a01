-- Which policies follow from what a macro can do to a text.
pub mod Facts
pub mod Laws
pub mod Manners
pub mod Plain
pub mod Simple
