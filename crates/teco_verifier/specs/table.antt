-- Tables of what is known and chosen at each node: when they are closed, how one is derived, and what is printed of
-- them.
pub mod Table
pub mod Choices
pub mod Behind
pub mod Written
pub mod Closed
pub mod Deriving
pub mod Printed
pub mod Loops
