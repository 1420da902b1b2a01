use Rattle.teco_law_turns.proofs.Forward.{edges_go}
use Rattle.teco_law_turns.proofs.laws.edges_go.Goals as goal

pub returns : goal.returns
returns c = edges_go
