use Rattle.teco_law_turns.proofs.Outgrown.{growth_is_needed}
use Rattle.teco_law_turns.proofs.laws.growth_is_needed.Goals as goal

pub returns : goal.returns
returns c = growth_is_needed
