use Rattle.teco_law_runs.proofs.Runs.{steps_go_along_nodes}
use Rattle.teco_law_runs.proofs.laws.steps_go_along_nodes.Goals as goal

pub returns : goal.returns
returns c = steps_go_along_nodes
