use Rattle.teco_run.proofs.Determined.{determined}
use Rattle.teco_run.proofs.laws.runs_are_determined.Goals as goal

pub returns : goal.returns
returns c = determined
