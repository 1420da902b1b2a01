use Rattle.teco_law_runs.proofs.Linking.{nodes_have_texts}
use Rattle.teco_law_runs.proofs.laws.nodes_have_texts.Goals as goal

pub returns : goal.returns
returns c = nodes_have_texts
