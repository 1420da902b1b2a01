use Rattle.teco_law_runs.proofs.Runs.{runs_come_to_nodes}
use Rattle.teco_law_runs.proofs.laws.runs_come_to_nodes.Goals as goal

pub returns : goal.returns
returns c = runs_come_to_nodes
