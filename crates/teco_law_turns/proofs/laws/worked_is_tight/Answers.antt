use Rattle.teco_law_turns.proofs.Tight.{worked_is_tight}
use Rattle.teco_law_turns.proofs.laws.worked_is_tight.Goals as goal

pub returns : goal.returns
returns c = worked_is_tight
