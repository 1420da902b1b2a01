-- A run that ends in time leaves as open what was open.
use Rattle.std.specs.Prelude.{ℕ, ◌≤◌, ⊤}
use Rattle.teco_model.specs.Files.{Files}
use Rattle.teco_model.specs.Run.{Stops}
use Rattle.teco_model.specs.State.{World, State}
use Rattle.teco_model.specs.declared.stop.Stop.{Stop}
use Rattle.teco_model.specs.declared.stop.Stop.TheVariants as stop
use Rattle.teco_law_runs.specs.Ending.{EndsWithin}
use Rattle.teco_law_runs.specs.Staying.{AreAsOpen}

-- at its end the files are as open as they were
abbrev pub LeavesOpen : Stop → Files → Files → Type 0
LeavesOpen (stop.Ended n) old new = AreAsOpen old new
LeavesOpen answer old new = ⊤

abbrev pub RunsLeaveOpen : Type 0
RunsLeaveOpen =
    (s : State) (most limit : ℕ) (answer : Stop) (new : World)
    → EndsWithin s most → most ≤ limit → Stops s limit answer new → LeavesOpen answer s.world.files new.files
