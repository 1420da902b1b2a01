use Rattle.teco_law_changes.proofs.Runs.{ends_are_told}
use Rattle.teco_law_changes.proofs.laws.ends_are_told.Goals as goal

pub returns : goal.returns
returns c = ends_are_told c.stays_loaded.ensures
