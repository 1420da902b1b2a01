use Rattle.teco_law_changes.proofs.Firsts.{steps_give_no_first}
use Rattle.teco_law_changes.proofs.laws.steps_give_no_first.Goals as goal

pub returns : goal.returns
returns c = steps_give_no_first
