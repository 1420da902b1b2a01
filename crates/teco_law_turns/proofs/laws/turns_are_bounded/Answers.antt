use Rattle.teco_law_turns.proofs.Turning.{turns_are_bounded}
use Rattle.teco_law_turns.proofs.laws.turns_are_bounded.Goals as goal

pub returns : goal.returns
returns c = turns_are_bounded
