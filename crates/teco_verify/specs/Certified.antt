-- When what is found of a macro is certified.
use Rattle.std.specs.Prelude.{◌≡◌, ℤ, pos, List, Ok}
use Rattle.teco_verifier.specs.certificate.Fields.{Fields}
use Rattle.teco_verifier.specs.expansion.Expansion.{expansion}
use Rattle.teco_model.specs.Macros.{Library, ArgumentRange}
use Rattle.teco_verifier.specs.expansion.Node.{Node}
use Rattle.teco_library.specs.Library.{LibraryFile, argument_of}
use Rattle.teco_verifier.specs.table.Printed.{needs_in, IsPrinted}
use Rattle.teco_verifier.specs.table.Table.{Table}
use Rattle.teco_verifier.specs.table.Loops.{loops_of}

-- There is a table of the expansion that is closed for the argument, and its numbers, needs and choices are those of
-- that table.
pub record IsCertified (library : Library) (fields : Fields) : Type 0 where
  pub nodes : List Node
  pub table : Table
  pub expanded : expansion library fields.entry ≡ Ok nodes
  pub printed : IsPrinted fields.argument nodes table fields.commands fields.size
  pub needs_are : fields.needs ≡ needs_in nodes table
  pub loops_are : fields.loops ≡ loops_of nodes table

-- the least and the greatest argument
abbrev pub bounds_of : ArgumentRange → ℤ × ℤ
bounds_of range = (pos range.low, pos range.high)

-- The argument is the one that the library declares for the entry, if it declares one.
abbrev pub TakesDeclared : LibraryFile → Fields → Type 0
TakesDeclared library fields = fields.argument ≡ argument_of library fields.entry
