use Rattle.teco_law_runs.proofs.Alike.{steps_are_alike}
use Rattle.teco_law_runs.proofs.laws.steps_are_alike.Goals as goal

pub returns : goal.returns
returns c = steps_are_alike
