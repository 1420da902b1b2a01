-- Where a run of a library's macros can go: positions, the ways between them, and the nodes that an expansion numbers.
pub mod Position
pub mod Refusal
pub mod Ways
pub mod Names
pub mod Node
pub mod Order
pub mod Overlap
pub mod Expansion
pub mod Ends
