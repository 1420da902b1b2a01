-- The words that the contracts of this crate are written in.
pub mod Changes
pub mod Copying
pub mod Events
pub mod Held
pub mod HostCalls
pub mod HostFiles
pub mod MemFiles
pub mod Noted
pub mod Noting
pub mod PageCalls
pub mod Possible
pub mod Reading
pub mod TestFiles
