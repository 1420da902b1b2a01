use Rattle.teco_law_turns.proofs.Passed.{nodes_nest}
use Rattle.teco_law_turns.proofs.laws.nodes_nest.Goals as goal

pub returns : goal.returns
returns c = nodes_nest
