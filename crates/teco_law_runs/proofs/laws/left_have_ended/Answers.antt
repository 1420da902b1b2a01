use Rattle.teco_law_runs.proofs.Ends.{left_have_ended}
use Rattle.teco_law_runs.proofs.laws.left_have_ended.Goals as goal

pub returns : goal.returns
returns c = left_have_ended
