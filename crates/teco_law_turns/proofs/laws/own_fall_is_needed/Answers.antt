use Rattle.teco_law_turns.proofs.Endless.{own_fall_is_needed}
use Rattle.teco_law_turns.proofs.laws.own_fall_is_needed.Goals as goal

pub returns : goal.returns
returns c = own_fall_is_needed
