-- What is asked of a command that may go several ways.
use Rattle.std.specs.Prelude.{List}
use Rattle.teco_linear.specs.declared.term.Term.{Term}
use Rattle.teco_rows.specs.declared.case.Case.{Case}
use Rattle.teco_rows.specs.declared.commands.Way.{Way}
use Rattle.teco_rows.specs.declared.outcomes.Outcomes.{Outcomes}
use Rattle.teco_rows.specs.declared.row.Places.{Places}
use Rattle.teco_rows.specs.Commands.{AreCommanded, IsAtLevel}

-- each of the cases is behind the way in its place, from the innermost level on
pub record GoesAnyWay (case : Case) (ways : List Way) (given : List (List Term)) (all : Outcomes) : Type 0 where
  pub here : Places
  pub level : IsAtLevel here case
  pub cases : AreCommanded case ways given here all.cases.items
