-- The words that the contracts of this crate are written in.
pub use Rattle.teco_model.specs.Arguments
pub mod Faults
