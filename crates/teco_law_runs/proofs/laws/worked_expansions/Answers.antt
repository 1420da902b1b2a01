use Rattle.teco_law_runs.proofs.Worked.{worked_expansions}
use Rattle.teco_law_runs.proofs.laws.worked_expansions.Goals as goal

pub returns : goal.returns
returns c = worked_expansions
