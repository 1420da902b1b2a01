-- Certificates of the linear rules: their text, what reading one gives, and what is so of a macro whose certificate was
-- checked.
pub mod Checksum
pub mod Text
pub mod Reads
pub mod Claimed
pub mod Refused
