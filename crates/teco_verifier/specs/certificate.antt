-- What a certificate says.
pub mod ArgumentText
pub mod Fields
