use Rattle.teco_law_changes.proofs.Steps.{steps_are_told}
use Rattle.teco_law_changes.proofs.laws.steps_are_told.Goals as goal

pub returns : goal.returns
returns c = steps_are_told
