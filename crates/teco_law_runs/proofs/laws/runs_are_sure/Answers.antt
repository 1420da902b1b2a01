use Rattle.teco_law_runs.proofs.Sure.{runs_are_sure}
use Rattle.teco_law_runs.proofs.laws.runs_are_sure.Goals as goal

pub returns : goal.returns
returns c = runs_are_sure
