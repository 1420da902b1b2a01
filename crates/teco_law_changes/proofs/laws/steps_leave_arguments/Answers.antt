use Rattle.teco_law_changes.proofs.Numbers.{steps_leave_arguments}
use Rattle.teco_law_changes.proofs.laws.steps_leave_arguments.Goals as goal

pub returns : goal.returns
returns c = steps_leave_arguments
