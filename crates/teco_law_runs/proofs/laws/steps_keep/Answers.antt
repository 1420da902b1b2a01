use Rattle.teco_law_runs.proofs.StayLoaded.{steps_keep}
use Rattle.teco_law_runs.proofs.laws.steps_keep.Goals as goal

pub returns : goal.returns
returns c = steps_keep
