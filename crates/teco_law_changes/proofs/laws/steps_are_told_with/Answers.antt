use Rattle.teco_law_changes.proofs.Sharper.{steps_are_told_with}
use Rattle.teco_law_changes.proofs.laws.steps_are_told_with.Goals as goal

pub returns : goal.returns
returns c = steps_are_told_with
