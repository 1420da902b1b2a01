-- Tables of what an expanded program holds and repeats at most, runs over them, and the number of steps that is printed
-- of a table.
pub mod Table
pub mod Moves
pub mod Machines
pub mod Turns
pub mod Nests
pub mod Edges
pub mod Listed
pub mod Worked
pub mod Needed
