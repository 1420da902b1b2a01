use Rattle.teco_law_changes.proofs.Onward.{steps_go_on}
use Rattle.teco_law_changes.proofs.laws.steps_go_on.Goals as goal

pub returns : goal.returns
returns c = steps_go_on
