use Rattle.teco_law_runs.proofs.Places.{nodes_are_sound}
use Rattle.teco_law_runs.proofs.laws.nodes_are_sound.Goals as goal

pub returns : goal.returns
returns c = nodes_are_sound
