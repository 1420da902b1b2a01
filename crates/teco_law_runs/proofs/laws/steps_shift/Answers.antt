use Rattle.teco_law_runs.proofs.Shifting.{steps_shift}
use Rattle.teco_law_runs.proofs.laws.steps_shift.Goals as goal

pub returns : goal.returns
returns c = steps_shift
