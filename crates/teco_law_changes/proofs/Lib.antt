-- Proofs of the laws.
mod Results
mod Marks
pub mod Worlds
mod Searches
mod Steps
mod Onward
mod Firsts
pub mod Runs
mod Numbers
mod Taking
mod Staying
mod Pending
pub mod Characters
mod Near
mod Lasts
pub mod Sharper
