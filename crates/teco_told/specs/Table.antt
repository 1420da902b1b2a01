-- A table of what is known before the elements.
use Rattle.std.specs.Prelude.{ℕ, zero, suc, List, slice_get, unwrap_or}
use Rattle.teco_changes.specs.declared.argument.NumericArgument.{NumericArgument}
use Rattle.teco_changes.specs.declared.argument.NumericArgument.TheVariants as known

-- its entry for a number from 1 on; behind the last nothing is known
abbrev pub before_in : List NumericArgument → ℕ → NumericArgument
before_in table zero = known.Unknown
before_in table (suc k) = unwrap_or (slice_get table k) known.Unknown
