-- Steps that may be refused: the first refusal is the answer of all.
pub use Rattle.teco_base.specs.Results.{◌>>=◌}
