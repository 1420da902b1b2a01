-- The answers of calls beside the definition, and the texts that they look at.
pub mod Anchors
pub mod Needles
pub mod Pieces
pub mod Reading
