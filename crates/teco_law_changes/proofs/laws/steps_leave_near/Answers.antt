use Rattle.teco_law_changes.proofs.Near.{steps_leave_near}
use Rattle.teco_law_changes.proofs.laws.steps_leave_near.Goals as goal

pub returns : goal.returns
returns c = steps_leave_near
