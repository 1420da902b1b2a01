use Rattle.teco_law_runs.proofs.Alike.{readings_are_alike}
use Rattle.teco_law_runs.proofs.laws.readings_are_alike.Goals as goal

pub returns : goal.returns
returns c = readings_are_alike
