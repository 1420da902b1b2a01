-- A run that ends in time.
use Rattle.std.specs.Prelude.{ℕ, ◌≤◌}
use Rattle.teco_law_runs.specs.Staying.{NoFileCommands}
use Rattle.teco_model.specs.Run.{Ends}
use Rattle.teco_model.specs.State.{World, State}

-- the run comes to its end, after no more than so many steps, none of them a command of files
pub record EndsWithin (s : State) (most : ℕ) : Type 0 where
  pub steps : ℕ
  pub new : World
  pub few : steps ≤ most
  pub none : NoFileCommands s steps
  pub ends : Ends s steps new
