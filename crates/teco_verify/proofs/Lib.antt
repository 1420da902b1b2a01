-- Lemmas of verdicts.
mod Prelude
mod Accepted
mod Refused
mod Telling
mod Nodes
mod Judged
mod Again
mod Promised
