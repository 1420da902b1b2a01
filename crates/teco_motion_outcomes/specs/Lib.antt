-- What motions and insertions do to the measures of a state, and rows that change no more than what is kept.
pub mod Changes
pub mod Motions
pub mod Insertions
