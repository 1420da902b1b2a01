-- The laws of tables.
use Rattle.std.specs.Prelude.{◌≡◌, ℕ, ◌+◌, List, Ok, Option}
use Rattle.teco_law_turns.specs.Table.{IsClosed, commands as steps_in}
use Rattle.teco_model.specs.Macros.{Library, ArgumentRange}
use Rattle.teco_law_runs.specs.Linked.{AreLinked}
use Rattle.teco_verifier.specs.expansion.Node.{Node}
use Rattle.teco_poly.specs.Polynomial.{Polynomial, value}
use Rattle.teco_verifier.specs.table.Closed.{check_nodes}
use Rattle.teco_verifier.specs.table.Printed.{steps_before, commands}
use Rattle.teco_verifier.specs.table.Table.{Table}
use Rattle.teco_law_tables.specs.Turning.{turning}

-- The printed number of commands is that of the table of numbers, and of the digits before the call.
abbrev pub CommandsAreSteps : Type 0
CommandsAreSteps =
    (argument : Option ArgumentRange) (nodes : List Node) (table : Table) (printed : Polynomial) (n : ℕ)
    → commands argument nodes table ≡ Ok printed
    → steps_before argument + steps_in (turning nodes table n) ≡ value printed n

-- A closed table is closed as a table of numbers.
abbrev pub TablesAreClosed : Type 0
TablesAreClosed =
    (library : Library) (entry : ℕ) (nodes : List Node) (table : Table) (n : ℕ)
    → AreLinked library entry nodes → check_nodes nodes table ≡ Ok tt → IsClosed (turning nodes table n)
