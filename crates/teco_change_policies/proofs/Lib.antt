-- Lemmas of the laws, and of what is decided.
mod Subsequent
mod LineEnds
mod Cases
mod Characters
mod Plainly
mod Others
mod Found
mod EitherMode
mod Simply
