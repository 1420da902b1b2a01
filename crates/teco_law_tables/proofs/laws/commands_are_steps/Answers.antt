use Rattle.teco_law_tables.proofs.Counting.{commands_are_steps}
use Rattle.teco_law_tables.proofs.laws.commands_are_steps.Goals as goal

pub returns : goal.returns
returns c = commands_are_steps
