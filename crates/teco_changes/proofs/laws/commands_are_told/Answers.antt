use Rattle.teco_changes.proofs.Unchanged.{commands_are_told}
use Rattle.teco_changes.proofs.laws.commands_are_told.Goals as goal

pub returns : goal.returns
returns c = commands_are_told
