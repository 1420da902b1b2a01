use Rattle.teco_law_runs.proofs.Whole.{whole_is_kept}
use Rattle.teco_law_runs.proofs.laws.whole_is_kept.Goals as goal

pub returns : goal.returns
returns c = whole_is_kept
