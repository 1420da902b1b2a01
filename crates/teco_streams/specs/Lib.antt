-- Which calls of a host of streams go to its files.
pub mod Streams
