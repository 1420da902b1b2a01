use Rattle.teco_law_turns.proofs.Turning.{runs_are_covered}
use Rattle.teco_law_turns.proofs.laws.runs_are_covered.Goals as goal

pub returns : goal.returns
returns c = runs_are_covered
