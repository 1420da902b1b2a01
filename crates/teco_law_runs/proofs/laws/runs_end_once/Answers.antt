use Rattle.teco_law_runs.proofs.Sure.{runs_end_once}
use Rattle.teco_law_runs.proofs.laws.runs_end_once.Goals as goal

pub returns : goal.returns
returns c = runs_end_once
