-- What polynomials in N are: their coefficients and values, the operations on them, their texts, and what
-- stands at the front of a text.
pub mod Polynomial
pub mod Text
pub mod Reading
pub mod Front
pub mod Laws
pub mod Constants
