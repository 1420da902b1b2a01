-- A macro whose table is closed runs to its end without a code, within the printed number of commands, from each
-- state with the needed files open in which the printed size may be held, and with each argument in the range that
-- is declared.
use Rattle.std.specs.Prelude.{ℕ, List, Option}
use Rattle.teco_model.specs.State.{World, start}
use Rattle.teco_law_runs.specs.Given.{call_given}
use Rattle.teco_model.specs.Macros.{Library, ArgumentRange, IsAsked}
use Rattle.teco_law_runs.specs.Linked.{AreLinked}
use Rattle.teco_verifier.specs.expansion.Node.{Node}
use Rattle.teco_poly.specs.Polynomial.{Polynomial, value}
use Rattle.teco_law_runs.specs.Ready.{IsReady, AreOpen}
use Rattle.teco_law_runs.specs.Ending.{EndsWithin}
use Rattle.teco_verifier.specs.table.Printed.{needs_in, IsPrinted}
use Rattle.teco_verifier.specs.table.Table.{Table}

abbrev pub RunsAreVerified : Type 0
RunsAreVerified =
    (library : Library) (entry : ℕ) (argument : Option ArgumentRange) (given : Option ℕ) (nodes : List Node)
    (table : Table) (steps most : Polynomial) (n : ℕ) (world : World)
    → AreLinked library entry nodes → IsPrinted argument nodes table steps most → IsAsked argument given
    → IsReady library entry most n world → AreOpen (needs_in nodes table) world.files
    → EndsWithin (start (call_given entry given) world) (value steps n)
