-- Lemmas of the list.
mod Grown
mod Telling
mod Holding
mod Tables
mod Weaker
mod Ways
mod NearTables
mod Signs
