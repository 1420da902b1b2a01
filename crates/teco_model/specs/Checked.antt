-- Steps that may be a code: the first code is the answer of all.
pub use Rattle.teco_base.specs.Results.{◌>>=◌, ◌>>-◌}
