use Rattle.teco_law_runs.proofs.Texts.{loading_loads}
use Rattle.teco_law_runs.proofs.laws.loading_loads.Goals as goal

pub returns : goal.returns
returns c = loading_loads
