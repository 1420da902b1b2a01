use Rattle.teco_law_runs.proofs.StepWays.{steps_go_ways}
use Rattle.teco_law_runs.proofs.laws.steps_go_ways.Goals as goal

pub returns : goal.returns
returns c = steps_go_ways
