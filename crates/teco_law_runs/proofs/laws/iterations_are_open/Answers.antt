use Rattle.teco_law_runs.proofs.Iterations.{iterations_are_open}
use Rattle.teco_law_runs.proofs.laws.iterations_are_open.Goals as goal

pub returns : goal.returns
returns c = iterations_are_open
