-- Objects of JSON.
pub mod Json
