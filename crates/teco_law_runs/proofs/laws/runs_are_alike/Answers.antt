use Rattle.teco_law_runs.proofs.Alike.{runs_are_alike}
use Rattle.teco_law_runs.proofs.laws.runs_are_alike.Goals as goal

pub returns : goal.returns
returns c = runs_are_alike
