use Rattle.teco_law_changes.proofs.Runs.{runs_are_told}
use Rattle.teco_law_changes.proofs.laws.runs_are_told.Goals as goal

pub returns : goal.returns
returns c = runs_are_told c.stays_loaded.ensures
