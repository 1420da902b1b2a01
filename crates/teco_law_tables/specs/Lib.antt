-- The laws of tables: what runs do where a table is closed.
pub mod Turning
pub mod Laws
pub mod Following
pub mod Moving
pub mod Ending
pub mod Rows
pub mod Verified
pub mod Framing
pub mod Bounded
pub mod straight_text
