use Rattle.teco_law_runs.proofs.Runs.{runs_end}
use Rattle.teco_law_runs.proofs.laws.runs_end.Goals as goal

pub returns : goal.returns
returns c = runs_end
