mod Asking
mod Deciding
mod Differences
mod Firsts
pub mod Keeping
mod Lasts
mod LinesAlike
mod Subsequences
mod Walking
