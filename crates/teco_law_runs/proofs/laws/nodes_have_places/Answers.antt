use Rattle.teco_law_runs.proofs.Places.{nodes_have_places}
use Rattle.teco_law_runs.proofs.laws.nodes_have_places.Goals as goal

pub returns : goal.returns
returns c = nodes_have_places
