use Rattle.teco_law_runs.proofs.Ends.{iterations_end}
use Rattle.teco_law_runs.proofs.laws.iterations_end.Goals as goal

pub returns : goal.returns
returns c = iterations_end
