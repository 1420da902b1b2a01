use Rattle.teco_law_turns.proofs.Runs.{machines_end}
use Rattle.teco_law_turns.proofs.laws.machines_end.Goals as goal

pub returns : goal.returns
returns c s = machines_end _
