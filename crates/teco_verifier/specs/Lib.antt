-- The definition of the verifier: where a run of a macro can go, what is known on the way, when that hangs
-- together, and what is printed of it.
pub mod expansion
pub mod facts
pub mod table
pub mod certificate
