use Rattle.teco_law_turns.proofs.Sum.{commands_are_sum}
use Rattle.teco_law_turns.proofs.laws.commands_are_sum.Goals as goal

pub returns : goal.returns
returns c = commands_are_sum
