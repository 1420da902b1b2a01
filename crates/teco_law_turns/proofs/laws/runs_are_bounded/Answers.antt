use Rattle.teco_law_turns.proofs.Runs.{runs_are_bounded}
use Rattle.teco_law_turns.proofs.laws.runs_are_bounded.Goals as goal

pub returns : goal.returns
returns c = runs_are_bounded
