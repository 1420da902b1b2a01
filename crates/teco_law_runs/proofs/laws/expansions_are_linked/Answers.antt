use Rattle.teco_law_runs.proofs.Linking.{expansions_are_linked}
use Rattle.teco_law_runs.proofs.laws.expansions_are_linked.Goals as goal

pub returns : goal.returns
returns c = expansions_are_linked
