use Rattle.teco_law_runs.proofs.Keeping.{runs_leave_open}
use Rattle.teco_law_runs.proofs.laws.runs_leave_open.Goals as goal

pub returns : goal.returns
returns c = runs_leave_open
