use Rattle.teco_law_runs.proofs.Staying.{files_stay_open}
use Rattle.teco_law_runs.proofs.laws.files_stay_open.Goals as goal

pub returns : goal.returns
returns c = files_stay_open
