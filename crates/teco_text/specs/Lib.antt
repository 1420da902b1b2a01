-- The words that the contracts of this crate are written in: texts, what a store shows, and when a call answers what.
pub mod Answers
pub mod Counted
pub mod PointedText
pub use Rattle.teco_base.specs.Lines
pub use Rattle.teco_base.specs.Text
pub mod Gapped
